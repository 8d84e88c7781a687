-- A mark keeps all that is known within the limits.
use Rattle.std.specs.Prelude.{◌≡◌, ℕ, zero, suc, ◌==◌, nat_le, nat_lt, Bool, true, false, not, ◌&&◌, List, [], ◌∷◌, ◌++◌, filter, Option, Some, None, Result, Ok, Err, IfSome, MatchOption, OnOk, OnErr, if◌then◌else◌}
use Rattle.std.proofs.Common.{subst, sym, inl, inr, arith}
use Rattle.std.proofs.lemmas.Bool.{cases_Bool, or_cases, and_parts, eqb-true}
use Rattle.cg_base.specs.declared.action_id.ActionId.{ActionId}
use Rattle.cg_base.specs.Ids.{same_id, id_before, has_name}
use Rattle.cg_base.specs.Lists.{at_place, Each}
use Rattle.cg_base.specs.Cuts.{index_in}
use Rattle.cg_action.specs.declared.action.Action.{Action}
use Rattle.cg_action.specs.ActionLimits.{IsAction, IsActionId}
use Rattle.cg_records.specs.Limits.{IsName}
use Rattle.cg_queue.specs.Queue.{QueueView, Marking, Marks, Gaps, with_red, marked_red, with_yellow, and_yellow, marked_yellow, green_count, action_of, names_of, placed_red, placed_green}
use Rattle.cg_queue.specs.Answers.{marked_green}
use Rattle.cg_queue.specs.declared.mark.Mark.{Mark}
use Rattle.cg_queue.specs.declared.mark.QueueFault.{QueueFault}
use Rattle.cg_queue.specs.declared.mark.QueueFault.TheVariants.{Gap, NoMemory}
use Rattle.cg_queue.specs.Answers.{Answers, AreReds}
use Rattle.cg_client.specs.Kept.{AreKept}
use Rattle.cg_base.specs.EachLaws.{Each-get, Each-append}
use Rattle.cg_base.specs.FindLaws.{found_each}
use Rattle.cg_records.specs.CutLaws.{raise-indexed}

pub Each-filter : {X : Type 0} (test : X → Bool) (P : X → Type 0) (xs : List X) → Each P xs → Each P (filter test xs)
Each-filter test P [] each = tt
Each-filter test P (x ∷ xs) each = elim (cases_Bool (test x)) [
  | inl stays ↦ rw stays (each.0, Each-filter test P xs each.1)
  | inr goes ↦ rw goes (Each-filter test P xs each.1)
]

Each-with_red : (P : Action → Type 0) (reds : List Action) (a : Action) → P a → Each P reds → Each P (with_red reds a)
Each-with_red P [] a here all = (here, tt)
Each-with_red P (b ∷ reds) a here all = elim (cases_Bool (id_before a.id b.id)) [
  | inl before ↦ rw before (here, all)
  | inr behind ↦ rw behind (all.0, Each-with_red P reds a here all.1)
]

-- ---- cuts

-- ---- names

named : (reds : List Action) (id : ActionId) → Each IsAction reds → has_name (names_of reds) id ≡ true → IsName id
named [] id all stands = absurd (cc)
named (a ∷ reds) id all stands = elim (or_cases (same_id id a.id) (has_name (names_of reds) id) stands) [
  | inl here ↦
      let parts = and_parts (id.creator == a.id.creator) (id.index == a.id.index) here in
      let creator : id.creator ≡ a.id.creator = eqb-true id.creator a.id.creator parts.0 in
      let index : id.index ≡ a.id.index = eqb-true id.index a.id.index parts.1 in
      (rw creator all.0.id.creator, (rw index all.0.id.from_one, rw index all.0.id.below))
  | inr behind ↦ named reds id all.1 behind
]

reds_named : (q : QueueView) (ids : List ActionId) → Each IsAction q.reds → AreReds q ids → Each IsName ids
reds_named q [] all reds = tt
reds_named q (id ∷ ids) all reds = (named q.reds id all reds.0, reds_named q ids all reds.1)

-- ---- marks

-- what a marking leaves is kept
abbrev Keeps : Marking → Type 0
Keeps (Marks mark q) = AreKept q
Keeps (Gaps cut) = Unit {0}

keeps_if : (b : Bool) (x y : Marking) → Keeps x → Keeps y → Keeps (if b then x else y)
keeps_if true x y kx ky = kx
keeps_if false x y kx ky = ky

placed_red-kept : (q : QueueView) (a : Action) → AreKept q → IsAction a → AreKept (placed_red q a)
placed_red-kept q a kept here =
    record {
      greens = kept.greens;
      reds = Each-with_red IsAction q.reds a here kept.reds;
      green_cut = kept.green_cut;
      red_cut = raise-indexed q.red_cut a.id here.id.below kept.red_cut;
      yellow = kept.yellow;
    }

placed_green-kept : (q : QueueView) (a : Action) → AreKept q → IsAction a → AreKept (placed_green q a)
placed_green-kept q a kept here =
    record {
      greens = Each-append IsAction q.greens (a ∷ []) kept.greens (here, tt);
      reds = Each-filter (λ b. not (same_id b.id a.id)) IsAction q.reds kept.reds;
      green_cut = raise-indexed q.green_cut a.id here.id.below kept.green_cut;
      red_cut = raise-indexed q.red_cut a.id here.id.below kept.red_cut;
      yellow = Each-filter (λ id. not (same_id id a.id)) IsName q.yellow kept.yellow;
    }

red_keeps : (q : QueueView) (a : Action) → AreKept q → IsAction a → Keeps (marked_red q a)
red_keeps q a kept here =
    keeps_if (nat_le a.id.index (index_in q.red_cut a.id.creator)) _ _ kept
    (keeps_if (a.id.index == suc (index_in q.red_cut a.id.creator)) _ _ (placed_red-kept q a kept here) tt)

named_keeps : (q : QueueView) (id : ActionId) → AreKept q → IsActionId id → AreKept (with_yellow q id)
named_keeps q id kept here = elim (cases_Bool (nat_lt (index_in q.green_cut id.creator) id.index && not (has_name q.yellow id))) [
  | inl new ↦
      rw new (record {
        greens = kept.greens;
        reds = kept.reds;
        green_cut = kept.green_cut;
        red_cut = kept.red_cut;
        yellow = Each-append IsName q.yellow (id ∷ []) kept.yellow ((here.creator, (here.from_one, here.below)), tt);
      })
  | inr old ↦ rw old kept
]

and_yellow_keeps : (id : ActionId) (m : Marking) → IsActionId id → Keeps m → Keeps (and_yellow id m)
and_yellow_keeps id (Marks mark q) here kept = named_keeps q id kept here
and_yellow_keeps id (Gaps cut) here kept = tt

yellow_keeps : (q : QueueView) (a : Action) → AreKept q → IsAction a → Keeps (marked_yellow q a)
yellow_keeps q a kept here = and_yellow_keeps a.id (marked_red q a) here.id (red_keeps q a kept here)

green_keeps : (q : QueueView) (at : ℕ) (a : Action) → AreKept q → IsAction a → Keeps (marked_green q at a)
green_keeps q at a kept here = keeps_if (nat_le at (green_count q)) _ _ kept (placed_green-kept q a kept here)

-- ---- other calls

pub renamed-kept : (q : QueueView) (ids : List ActionId) → AreKept q → AreReds q ids → AreKept (record q { yellow = ids })
renamed-kept q ids kept reds =
    record { greens = kept.greens; reds = kept.reds; green_cut = kept.green_cut; red_cut = kept.red_cut; yellow = reds_named q ids kept.reds reds }

pub found : (q : QueueView) (id : ActionId) → AreKept q → IfSome (action_of q id) IsAction
found q id kept = found_each IsAction (λ a. same_id a.id id) (q.greens ++ q.reds) (Each-append IsAction q.greens q.reds kept.greens kept.reds)

-- and so is what a call leaves
answer_keeps : (m : Marking) (old new : QueueView) (r : Result Mark QueueFault) → AreKept old → Keeps m → Answers m old new r → AreKept new
answer_keeps m old new (Ok mark) kept keeps e = subst Keeps e keeps
answer_keeps m old new (Err (Gap cut)) kept keeps e = subst AreKept (sym e.1) kept
answer_keeps m old new (Err NoMemory) kept keeps e = subst AreKept (sym e) kept

pub after_red : (old new : QueueView) (a : Action) (r : Result Mark QueueFault) → AreKept old → IsAction a → Answers (marked_red old a) old new r → AreKept new
after_red old new a r kept here e = answer_keeps (marked_red old a) old new r kept (red_keeps old a kept here) e

pub after_yellow : (old new : QueueView) (a : Action) (r : Result Mark QueueFault) → AreKept old → IsAction a → Answers (marked_yellow old a) old new r → AreKept new
after_yellow old new a r kept here e = answer_keeps (marked_yellow old a) old new r kept (yellow_keeps old a kept here) e

pub after_green : (old new : QueueView) (at : ℕ) (a : Action) (r : Result Mark QueueFault) → AreKept old → IsAction a → Answers (marked_green old at a) old new r → AreKept new
after_green old new at a r kept here e = answer_keeps (marked_green old at a) old new r kept (green_keeps old at a kept here) e

pub after_turn : {E : Type 0} (old new : QueueView) (id : ActionId) (r : Result (Unit {0}) E) → AreKept old
    → OnOk r (MatchOption (action_of old id) (new ≡ old) (λ a. new ≡ placed_green old a)) → OnErr r (new ≡ old) → AreKept new
after_turn old new id (Ok u) kept turned same = turned-kept (action_of old id) (found old id kept) turned where
  turned-kept : (o : Option Action) → IfSome o IsAction → MatchOption o (new ≡ old) (λ a. new ≡ placed_green old a) → AreKept new
  turned-kept None here e = subst AreKept (sym e) kept
  turned-kept (Some a) here e = subst AreKept (sym e) (placed_green-kept old a kept here)
after_turn old new id (Err fault) kept turned same = subst AreKept (sym same) kept

pub after_names : {E : Type 0} (old new : QueueView) (ids : List ActionId) (r : Result (Unit {0}) E)
    → AreKept old → AreReds old ids → OnOk r (new ≡ record old { yellow = ids }) → OnErr r (new ≡ old) → AreKept new
after_names old new ids (Ok u) kept reds e same = subst AreKept (sym e) (renamed-kept old ids kept reds)
after_names old new ids (Err fault) kept reds e same = subst AreKept (sym same) kept

pub kept-at : (greens : List Action) (at : ℕ) → Each IsAction greens → IfSome (at_place greens at) IsAction
kept-at greens zero all = tt
kept-at greens (suc n) all = Each-get IsAction greens n all
