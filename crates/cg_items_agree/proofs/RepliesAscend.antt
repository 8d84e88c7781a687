-- The replies of a step ascend by the places of their actions in the order behind it.
use Rattle.std.proofs.Common.{◌≡◌, ℕ, ◌<◌, List, [], ◌∷◌, map, length, sym, inl, inr, arith, zero, suc}
use Rattle.std.proofs.lemmas.Bool.{cases_lt}
use Rattle.cg_base.specs.declared.action_id.ActionId.{ActionId}
use Rattle.cg_base.specs.Lists.{Each}
use Rattle.cg_report.specs.declared.entry.Reply.{Reply}
use Rattle.cg_model.specs.Show.{Answered}
use Rattle.cg_model.specs.Places.{place_of}
use Rattle.cg_terms.specs.Linearizable.{AllDiffer}
use Rattle.cg_items_agree.proofs.SessionsRising.{Ascends}
use Rattle.cg_items_agree.proofs.RepliesAt.{place-some, same-place, Sorted, IsAt}

abbrev pub ids_of : List Answered → List ActionId
ids_of list = map (λ (r : Reply). r.id) (map (λ (a : Answered). a.reply) list)

module _ (V : List ActionId) (differ : AllDiffer V) where
  abbrev place : ActionId → ℕ
  place id = place_of V id

  behind-one : (a : Answered) (list : List Answered) → IsAt V differ a → Sorted a.place list → Each (IsAt V differ) list → AllDiffer (a.reply.id ∷ ids_of list) →
      Ascends (place a.reply.id) (map place (ids_of list))
  behind-one a [] at sorted each apart = tt
  behind-one a (b ∷ list) at sorted each apart = (
    elim (cases_lt (place a.reply.id) (place b.reply.id)) [
      | inl lt ↦ lt
      | inr le ↦
          let one = at.0 in
          let two = each.0.0 in
          let up = sorted.0 in
          let same : place a.reply.id ≡ place b.reply.id = omega arith in
          let within = at.1 in
          let is : a.reply.id ≡ b.reply.id = same-place V a.reply.id b.reply.id same (omega arith) in
          absurd (apart.0 (zero, (let n = length (ids_of list) in let less : 0 < suc n = omega arith in less), sym is))
    ],
    behind-one b list each.0 sorted.1 each.1 apart.1,
  )

  pub ascends : (list : List Answered) → Sorted 0 list → Each (IsAt V differ) list → AllDiffer (ids_of list) → Ascends 0 (map place (ids_of list))
  ascends [] sorted each apart = tt
  ascends (a ∷ list) sorted each apart = ((let some = place-some V a.reply.id in omega arith), behind-one a list each.0 sorted.1 each.1 apart)
