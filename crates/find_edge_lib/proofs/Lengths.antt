-- A buffer of one value is as long as it says. A law, since to compute the longest would take more stack than the checker has.
use Rattle.std.proofs.Common.{◌≡◌, ℕ, length, sym}
use Rattle.std.proofs.Math.ListN.{replicate}
use Rattle.std.proofs.lemmas.List.{length-replicate}

pub long : (n : ℕ) → n ≡ length {A = ℕ} (replicate n 0)
long n = sym (length-replicate n 0)
