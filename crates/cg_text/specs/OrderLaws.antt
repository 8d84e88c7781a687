-- Texts that are the same to a test are one.
use Rattle.std.proofs.Common.{◌≡◌, ℕ, true, List}
use Rattle.std.proofs.lemmas.Slice.Eq.{bytes_eq-Decides}
use Rattle.cg_text.specs.Order.{same_text}

pub same_text-is : (xs ys : List ℕ) → same_text xs ys ≡ true → xs ≡ ys
same_text-is xs ys e = (bytes_eq-Decides xs ys).0 e
