-- A reply is the one to the first of the names that is its own.
use Rattle.std.proofs.Common.{◌≡◌, ℕ, suc, ◌+◌, ◌≤◌, ◌<◌, true, false, List, [], ◌∷◌, Some, None, length, drop, refl, sym, ap, ◌∙◌, inl, inr, arith}
use Rattle.std.specs.Prelude.{nat_lt}
use Rattle.std.specs.List.{position, position_or_len}
use Rattle.std.proofs.lemmas.List.{drop-drop, length-drop}
use Rattle.std.proofs.lemmas.Bool.{cases_Bool, cond-true, cond-false, lt-ltb, le-ltb}
use Rattle.cg_base.specs.declared.action_id.ActionId.{ActionId}
use Rattle.cg_base.specs.Ids.{same_id}
use Rattle.cg_report.specs.declared.entry.Reply.{Reply}
use Rattle.cg_model.specs.Show.{Answered, answered_from}
use Rattle.cg_world_events.specs.Showing.{FindsFrom}
use Rattle.cg_world_events.proofs.Printing.{there, nowhere}

index_of : ActionId → List ActionId → ℕ
index_of id ids = position_or_len (λ x. same_id x id) ids

-- no name before it is the reply's
later : (x id : ActionId) (ids : List ActionId) → same_id x id ≡ false → index_of id (x ∷ ids) ≡ suc (index_of id ids)
unfolding index_of
later x id ids other = rw other (omega arith)

named : (id : ActionId) (ids : List ActionId) (n : ℕ) (r : Reply) (replies : List Reply) → r.id ≡ id → index_of id ids < length ids →
    answered_from n ids (r ∷ replies)
    ≡ record { place = suc (n + index_of id ids); reply = r } ∷ answered_from (suc (n + index_of id ids)) (drop (suc (index_of id ids)) ids) replies
unfolding index_of
named id [] n r replies same less = absurd (omega (arith, less))
named id (x ∷ ids) n r replies same less = elim (cases_Bool (same_id x id)) [
  | inl here ↦ (
      let own : same_id x r.id ≡ true = ap (λ m. same_id x m) same ∙ here in
      let first : n ≡ n + 0 = omega arith in
      rw (own, here) (ap (λ m. (let a : Answered = record { place = suc m; reply = r } in a) ∷ answered_from (suc m) ids replies) first))
  | inr other ↦ (
      let others : same_id x r.id ≡ false = ap (λ m. same_id x m) same ∙ other in
      let at = index_of id ids in
      let step = later x id ids other in
      let inside : at < length ids = (let more = rw step at less in omega (arith, more)) in
      let next : suc n + at ≡ n + suc at = omega arith in
      rw others (named id ids (suc n) r replies same inside
      ∙ ap (λ m. (let a : Answered = record { place = suc m; reply = r } in a) ∷ answered_from (suc m) (drop (suc at) ids) replies) next
      ∙ ap (λ k. (let a : Answered = record { place = suc (n + k); reply = r } in a) ∷ answered_from (suc (n + k)) (drop (suc k) (x ∷ ids)) replies) (sym step)))
]

unnamed : (id : ActionId) (ids : List ActionId) (n : ℕ) (r : Reply) (replies : List Reply) → r.id ≡ id → length ids ≤ index_of id ids → answered_from n ids (r ∷ replies) ≡ []
unfolding index_of
unnamed id [] n r replies same past = refl
unnamed id (x ∷ ids) n r replies same past = elim (cases_Bool (same_id x id)) [
  | inl here ↦ absurd (let none = rw here at past in omega (arith, none))
  | inr other ↦ (
      let others : same_id x r.id ≡ false = ap (λ m. same_id x m) same ∙ other in
      let beyond : length ids ≤ index_of id ids = (let more = rw (later x id ids other) at past in omega (arith, more)) in
      rw others (unnamed id ids (suc n) r replies same beyond))
]

pub found-from : (id : ActionId) (ids : List ActionId) (from index : ℕ) → position (λ x. same_id x id) (drop from ids) ≡ Some index → FindsFrom id ids from (from + index)
unfolding index_of
found-from id ids from index e before r replies same =
    let rest = drop from ids in
    let at = index_of id rest in
    let is = there at (length rest) index e in
    let inside : from + index < length ids = (let long = length-drop from ids in let less = is.0 in let here = is.1 in omega (arith, long, less, here)) in
    let places : (before + from) + at ≡ before + (from + index) = (let here = is.1 in omega (arith, here)) in
    let more : from + suc at ≡ suc (from + index) = (let here = is.1 in omega (arith, here)) in
    let behind : drop (suc at) rest ≡ drop (suc (from + index)) ids = drop-drop (suc at) from ids ∙ ap (λ n. drop n ids) more in
    named id rest (before + from) r replies same is.0
    ∙ (λ i. (let a : Answered = record { place = suc (places i); reply = r } in a) ∷ answered_from (suc (places i)) (behind i) replies)
    ∙ sym (cond-true (nat_lt (from + index) (length ids)) _ _ (lt-ltb (from + index) (length ids) inside))

pub missed-from : (id : ActionId) (ids : List ActionId) (from : ℕ) → position (λ x. same_id x id) (drop from ids) ≡ None → FindsFrom id ids from (length ids)
unfolding index_of
missed-from id ids from e before r replies same =
    let rest = drop from ids in
    unnamed id rest (before + from) r replies same (nowhere (index_of id rest) (length rest) e)
    ∙ sym (cond-false (nat_lt (length ids) (length ids)) _ _ (le-ltb (length ids) (length ids) (omega arith)))
