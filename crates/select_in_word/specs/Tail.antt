-- The mask of a record's last word, which has `residual` bits of the record, or all 64 where residual is 0.
use Rattle.std.specs.Prelude.{ℕ, zero, suc, ◌-◌, ◌^◌}

abbrev pub tail_mask : ℕ → ℕ
tail_mask zero = 2 ^ 64 - 1
tail_mask (suc r) = 2 ^ suc r - 1
