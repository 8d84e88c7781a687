use Rattle.std.proofs.Common.{◌<◌, ◌^◌, ◌∙◌, ap, length, eqb, w32, bit_and, arith}
use Rattle.std.specs.Int.{bit_not}
use Rattle.std.proofs.lemmas.Nat.{and_le_l}
use Rattle.cg_base.specs.Sets.{has}
use Rattle.cg_base.proofs.WordLemmas.{members, members-empty, members-and_not, length-filter_none}
use Rattle.cg_base.proofs.id_set.IdSet.is_within.Goals as goal

-- none lacks in the other set where the word of those that lack is 0
pub returns : goal.returns
returns c =
    let a = c.self.inside.word in
    let b = c.o.inside.word in
    let least : bit_and a (bit_not w32 b) < 2 ^ 32 = let small : a < 2 ^ 32 = c.self.invariant in omega (arith, small, and_le_l a (bit_not w32 b)) in
    rw (← c.self.view_is, ← c.o.view_is)
    (members-empty (bit_and a (bit_not w32 b)) least ∙ ap (λ s. eqb (length s) 0) (members-and_not a b c.o.invariant) ∙ length-filter_none (has (members b)) (members a))
