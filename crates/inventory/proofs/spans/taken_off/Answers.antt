-- At each line of the list the tests tell that it is the span's (`in_case`); at the last return they tell that none is.
use borrow.Author.Rules.{rules}
use Rattle.inventory.proofs.Doublings.{in_case, past_cases}
use Rattle.inventory.proofs.spans.taken_off.Goals as goal

pub returns-in-0-to-131071 : goal.returns-in-0-to-131071
returns-in-0-to-131071 c = in_case (search rules)

pub returns-in-0-to-262143 : goal.returns-in-0-to-262143
returns-in-0-to-262143 c = in_case (search rules)

pub returns-in-0-to-524287 : goal.returns-in-0-to-524287
returns-in-0-to-524287 c = in_case (search rules)

pub returns-in-0-to-1048575 : goal.returns-in-0-to-1048575
returns-in-0-to-1048575 c = in_case (search rules)

pub returns-in-0-to-2097151 : goal.returns-in-0-to-2097151
returns-in-0-to-2097151 c = in_case (search rules)

pub returns-in-0-to-4194303 : goal.returns-in-0-to-4194303
returns-in-0-to-4194303 c = in_case (search rules)

pub returns-in-0-to-8388607 : goal.returns-in-0-to-8388607
returns-in-0-to-8388607 c = in_case (search rules)

pub returns-in-0-to-16777215 : goal.returns-in-0-to-16777215
returns-in-0-to-16777215 c = in_case (search rules)

pub returns-in-0-to-33554431 : goal.returns-in-0-to-33554431
returns-in-0-to-33554431 c = in_case (search rules)

pub returns-in-0-to-67108863 : goal.returns-in-0-to-67108863
returns-in-0-to-67108863 c = in_case (search rules)

pub returns-in-0-to-134217727 : goal.returns-in-0-to-134217727
returns-in-0-to-134217727 c = in_case (search rules)

pub returns-in-0-to-268435455 : goal.returns-in-0-to-268435455
returns-in-0-to-268435455 c = in_case (search rules)

pub returns-in-0-to-536870911 : goal.returns-in-0-to-536870911
returns-in-0-to-536870911 c = in_case (search rules)

pub returns-in-0-to-1073741823 : goal.returns-in-0-to-1073741823
returns-in-0-to-1073741823 c = in_case (search rules)

pub returns-in-0-to-2147483647 : goal.returns-in-0-to-2147483647
returns-in-0-to-2147483647 c = in_case (search rules)

pub returns-in-0-to-4294967295 : goal.returns-in-0-to-4294967295
returns-in-0-to-4294967295 c = in_case (search rules)

pub returns-in-0-to-8589934591 : goal.returns-in-0-to-8589934591
returns-in-0-to-8589934591 c = in_case (search rules)

pub returns-in-0-to-17179869183 : goal.returns-in-0-to-17179869183
returns-in-0-to-17179869183 c = in_case (search rules)

pub returns-in-0-to-34359738367 : goal.returns-in-0-to-34359738367
returns-in-0-to-34359738367 c = in_case (search rules)

pub returns-in-0-to-68719476735 : goal.returns-in-0-to-68719476735
returns-in-0-to-68719476735 c = in_case (search rules)

pub returns-in-0-to-137438953471 : goal.returns-in-0-to-137438953471
returns-in-0-to-137438953471 c = in_case (search rules)

pub returns-in-0-to-274877906943 : goal.returns-in-0-to-274877906943
returns-in-0-to-274877906943 c = in_case (search rules)

pub returns-in-0-to-549755813887 : goal.returns-in-0-to-549755813887
returns-in-0-to-549755813887 c = in_case (search rules)

pub returns-in-0-to-1099511627775 : goal.returns-in-0-to-1099511627775
returns-in-0-to-1099511627775 c = in_case (search rules)

pub returns-in-0-to-2199023255551 : goal.returns-in-0-to-2199023255551
returns-in-0-to-2199023255551 c = in_case (search rules)

pub returns-in-0-to-4398046511103 : goal.returns-in-0-to-4398046511103
returns-in-0-to-4398046511103 c = in_case (search rules)

pub returns-in-0-to-8796093022207 : goal.returns-in-0-to-8796093022207
returns-in-0-to-8796093022207 c = in_case (search rules)

pub returns-in-0-to-17592186044415 : goal.returns-in-0-to-17592186044415
returns-in-0-to-17592186044415 c = in_case (search rules)

pub returns-in-0-to-35184372088831 : goal.returns-in-0-to-35184372088831
returns-in-0-to-35184372088831 c = in_case (search rules)

pub returns-in-0-to-70368744177663 : goal.returns-in-0-to-70368744177663
returns-in-0-to-70368744177663 c = in_case (search rules)

pub returns-in-0-to-140737488355327 : goal.returns-in-0-to-140737488355327
returns-in-0-to-140737488355327 c = in_case (search rules)

pub returns-in-0-to-281474976710655 : goal.returns-in-0-to-281474976710655
returns-in-0-to-281474976710655 c = in_case (search rules)

pub returns-in-0-to-562949953421311 : goal.returns-in-0-to-562949953421311
returns-in-0-to-562949953421311 c = in_case (search rules)

pub returns-in-0-to-1125899906842623 : goal.returns-in-0-to-1125899906842623
returns-in-0-to-1125899906842623 c = in_case (search rules)

pub returns-in-0-to-2251799813685247 : goal.returns-in-0-to-2251799813685247
returns-in-0-to-2251799813685247 c = in_case (search rules)

pub returns-in-0-to-4503599627370495 : goal.returns-in-0-to-4503599627370495
returns-in-0-to-4503599627370495 c = in_case (search rules)

pub returns-in-0-to-9007199254740991 : goal.returns-in-0-to-9007199254740991
returns-in-0-to-9007199254740991 c = in_case (search rules)

pub returns-in-0-to-18014398509481983 : goal.returns-in-0-to-18014398509481983
returns-in-0-to-18014398509481983 c = in_case (search rules)

pub returns-in-0-to-36028797018963967 : goal.returns-in-0-to-36028797018963967
returns-in-0-to-36028797018963967 c = in_case (search rules)

pub returns-in-0-to-72057594037927935 : goal.returns-in-0-to-72057594037927935
returns-in-0-to-72057594037927935 c = in_case (search rules)

pub returns-in-0-to-144115188075855871 : goal.returns-in-0-to-144115188075855871
returns-in-0-to-144115188075855871 c = in_case (search rules)

pub returns-in-0-to-288230376151711743 : goal.returns-in-0-to-288230376151711743
returns-in-0-to-288230376151711743 c = in_case (search rules)

pub returns-in-0-to-576460752303423487 : goal.returns-in-0-to-576460752303423487
returns-in-0-to-576460752303423487 c = in_case (search rules)

pub returns-in-0-to-1152921504606846975 : goal.returns-in-0-to-1152921504606846975
returns-in-0-to-1152921504606846975 c = in_case (search rules)

pub returns-in-0-to-2305843009213693951 : goal.returns-in-0-to-2305843009213693951
returns-in-0-to-2305843009213693951 c = in_case (search rules)

pub returns-in-0-to-4611686018427387903 : goal.returns-in-0-to-4611686018427387903
returns-in-0-to-4611686018427387903 c = in_case (search rules)

pub returns-in_default : goal.returns-in_default
returns-in_default c = past_cases (search rules)
