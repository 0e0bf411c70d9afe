-- The number taken off S in the spacing of a U32 entry, as a list of spans. Document 02, W-204.
use Rattle.std.specs.Prelude.{cond, List, [], ◌∷◌, ℕ, leb}

-- a line of the layout sheet: for spans to the first number that no line before reaches, the second is taken off
pub data Case : Type 0 where
  to : ℕ → ℕ → Case

-- document 02: "2 for spans 65,537 to 131,071, 3 to 262,143, one more for each doubling, up to 47 for 2^61 to 2^62 - 1"
abbrev pub span_cases : List Case
span_cases =
    to 131_071 2
    ∷ to 262_143 3
    ∷ to 524_287 4
    ∷ to 1_048_575 5
    ∷ to 2_097_151 6
    ∷ to 4_194_303 7
    ∷ to 8_388_607 8
    ∷ to 16_777_215 9
    ∷ to 33_554_431 10
    ∷ to 67_108_863 11
    ∷ to 134_217_727 12
    ∷ to 268_435_455 13
    ∷ to 536_870_911 14
    ∷ to 1_073_741_823 15
    ∷ to 2_147_483_647 16
    ∷ to 4_294_967_295 17
    ∷ to 8_589_934_591 18
    ∷ to 17_179_869_183 19
    ∷ to 34_359_738_367 20
    ∷ to 68_719_476_735 21
    ∷ to 137_438_953_471 22
    ∷ to 274_877_906_943 23
    ∷ to 549_755_813_887 24
    ∷ to 1_099_511_627_775 25
    ∷ to 2_199_023_255_551 26
    ∷ to 4_398_046_511_103 27
    ∷ to 8_796_093_022_207 28
    ∷ to 17_592_186_044_415 29
    ∷ to 35_184_372_088_831 30
    ∷ to 70_368_744_177_663 31
    ∷ to 140_737_488_355_327 32
    ∷ to 281_474_976_710_655 33
    ∷ to 562_949_953_421_311 34
    ∷ to 1_125_899_906_842_623 35
    ∷ to 2_251_799_813_685_247 36
    ∷ to 4_503_599_627_370_495 37
    ∷ to 9_007_199_254_740_991 38
    ∷ to 18_014_398_509_481_983 39
    ∷ to 36_028_797_018_963_967 40
    ∷ to 72_057_594_037_927_935 41
    ∷ to 144_115_188_075_855_871 42
    ∷ to 288_230_376_151_711_743 43
    ∷ to 576_460_752_303_423_487 44
    ∷ to 1_152_921_504_606_846_975 45
    ∷ to 2_305_843_009_213_693_951 46
    ∷ to 4_611_686_018_427_387_903 47
    ∷ []

-- the number of the first line that reaches the span; it is used neither below 65,537, where it is 2, nor past the list, where it is 0
abbrev pub taken_by : List Case → ℕ → ℕ
taken_by [] span = 0
taken_by (to end off ∷ cases) span = cond (leb span end) off (taken_by cases span)

-- document 02: "the number taken off S"
unfoldable pub taken_off : ℕ → ℕ
taken_off span = taken_by span_cases span
