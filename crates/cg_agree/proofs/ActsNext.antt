-- An action that stands at a place of a configuration is the next of its creator behind what stands before it; and of a member that has
-- said no action it isn't.
use Rattle.std.proofs.Common.{◌≡◌, suc, List, [], ◌∷◌, ◌++◌, Some, take, drop, length, filter_map, refl, sym, ap, ◌∙◌, subst, arith, eqb-true, eq-eqb, length-append, None, not, true, zero, ℕ, ◌&&◌, ◌+◌, ◌||◌}
use Rattle.std.proofs.lemmas.Bool.{and_from, and_parts}
use Rattle.std.proofs.lemmas.List.Elements.{filter_map-append}
use Rattle.std.specs.Prelude.{◌==◌, slice_get}
use Rattle.cg_action.specs.declared.action.Action.{Action}
use Rattle.cg_agree_lemmas.specs.ActsOrdered.{heard-ended}
use Rattle.cg_agree_lemmas.specs.ActsWay.{acts-split, row-at}
use Rattle.cg_agree_lemmas.specs.HandNext.{legal-at, take-next, talk-append}
use Rattle.cg_agree_lemmas.specs.HandsNow.{whole-ended, whole-through}
use Rattle.cg_agree_lemmas.specs.NumbersSame.{AreInRow}
use Rattle.cg_agree_lemmas.specs.SaidSoFar.{kind-mine, rest-through}
use Rattle.cg_model.specs.Chronicle.{Chronicle}
use Rattle.cg_model.specs.FactsTalk.{TalkFacts, count_behind, of_creator, whole_talk}
use Rattle.cg_model.specs.Looks.{members_in, ordered_in, placed_of, said_in, waiting_in}
use Rattle.cg_model.specs.Talk.{Talk, act_in, is_announced as all_announced, hears, is_ended, is_full, is_through, known_up_to, may_go_on, may_say, no_talk, talk_of}
use Rattle.cg_base.specs.Sets.{has}
use Rattle.cg_group.specs.State.{Sent}
use Rattle.cg_knowledge.specs.Summaries.{remaining}
use Rattle.cg_knowledge.specs.Verdict.{decides}
use Rattle.cg_wire.specs.declared.message.Msg.{Msg}
use Rattle.cg_wire.specs.declared.message.Msg.TheVariants.{Action as ActionMsg}

module _ (c : Chronicle) (k n : ℕ) (s : Sent Msg) (old : TalkFacts c) (next : slice_get (ordered_in c k) n ≡ Some s) where
  abbrev set : List ℕ
  set = members_in c k

  abbrev list : List (Sent Msg)
  list = ordered_in c k

  -- what stands before it
  abbrev X : Talk
  X = talk_of (take n list)

  pub talk-next : talk_of (take (suc n) list) ≡ hears X s
  talk-next = ap talk_of (take-next list n s next) ∙ talk-append no_talk (take n list) (s ∷ [])

  pub may-stand : may_say set k X s.from s.message ≡ true
  may-stand = legal-at set k no_talk list n s (old.talk_legal.ordered k) next

  -- behind the end of the plan the summaries are heard
  pub ended-next : is_ended set X ≡ true → is_ended set (hears X s) ≡ true
  ended-next ended =
      let parts = and_parts (is_full set X) (is_through X) ended in
      let same = rest-through set k 0 (s ∷ []) X parts.0 parts.1 (and_from (may_say set k X s.from s.message) true may-stand refl) in
      (λ i. is_ended set (record X { heard = same.heard i; accepted = same.accepted i })) ∙ ended

  pub heard-next : is_ended set X ≡ true → (hears X s).heard ≡ X.heard
  heard-next ended = heard-ended set k X s.from s.message may-stand ended

  rest-is : drop n list ≡ s ∷ drop (suc n) list
  rest-is = dropped list n next where
    dropped : (xs : List (Sent Msg)) (m : ℕ) → slice_get xs m ≡ Some s → drop m xs ≡ s ∷ drop (suc m) xs
    dropped [] m e = absurd (let clash : None ≡ Some s = e in cc)
    dropped (x ∷ xs) zero e = let is : x ≡ s = cc in ap (λ y. y ∷ xs) is
    dropped (x ∷ xs) (suc m) e = dropped xs m e

  module _ (a : Action) (is : s.message ≡ ActionMsg a) where
    may-act : (a.id.creator ≡ s.from) × (is_ended set X ≡ true) × (has (remaining X.heard) s.from ≡ true)
    may-act =
        let m : may_say set k X s.from (ActionMsg a) ≡ true = ap (may_say set k X s.from) (sym is) ∙ may-stand in
        let outer = and_parts ((a.id.creator == s.from) && may_go_on set X s.from) (not (decides X.heard) || all_announced X) m in
        let inner = and_parts (a.id.creator == s.from) (may_go_on set X s.from) outer.0 in
        let goes = and_parts (is_ended set X) (has (remaining X.heard) s.from) inner.1 in
        (eqb-true a.id.creator s.from inner.0, goes.0, goes.1)

    -- what its creator has said
    abbrev later : List Action
    later = filter_map act_in (placed_of s.from (drop (suc n) list)) ++ filter_map act_in (waiting_in c k s.from)

    said-at : filter_map act_in (said_in c k s.from) ≡ of_creator s.from X.acts ++ a ∷ later
    said-at =
        let q = s.from in
        acts-split c k old.talk_legal n q
        ∙ ap (λ xs. of_creator q X.acts ++ xs) (
        filter_map-append act_in (placed_of q (drop n list)) (waiting_in c k q)
        ∙ ap (λ xs. filter_map act_in (placed_of q xs) ++ filter_map act_in (waiting_in c k q)) rest-is
        ∙ ap (λ xs. xs ++ filter_map act_in (waiting_in c k q)) (kind-mine act_in q s (drop (suc n) list) (eq-eqb q q refl))
        ∙ ap (λ m. filter_map act_in (m ∷ placed_of q (drop (suc n) list)) ++ filter_map act_in (waiting_in c k q)) is
        )

    pub numbered-next : a.id.index ≡ suc (count_behind X a.id.creator)
    numbered-next =
        let q = s.from in
        let m = may-act in
        let heard : (whole_talk c k).heard ≡ X.heard = (whole-through c k 0 n old.talk_legal m.1).heard in
        let row = old.acts_numbered.said k q (whole-ended c k 0 n old.talk_legal m.1) (ap (λ x. has (remaining x) q) heard ∙ m.2) in
        row-at (known_up_to (whole_talk c k).heard q) (of_creator q X.acts) a later (subst (AreInRow (known_up_to (whole_talk c k).heard q)) said-at row)
        ∙ ap (λ x. suc (known_up_to x q + length (of_creator q X.acts))) heard
        ∙ ap (λ x. suc (count_behind X x)) (sym m.0)

    -- it isn't of one who has said none
    pub not-silent : (p : ℕ) → filter_map act_in (said_in c k p) ≡ [] → a.id.creator ≡ p → ⊥
    not-silent p none mine =
        let q : s.from ≡ p = sym may-act.0 ∙ mine in
        let empty : length (filter_map act_in (said_in c k s.from)) ≡ 0 = ap (λ x. length (filter_map act_in (said_in c k x))) q ∙ ap length none in
        let long = ap length said-at in
        let more = length-append (of_creator s.from X.acts) (a ∷ later) in
        omega (arith, empty, long, more)
