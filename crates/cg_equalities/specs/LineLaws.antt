-- Lines that are found to be the same are one; and each line is found to be the same as itself.
use Rattle.std.proofs.Common.{◌≡◌, ℕ, zero, suc, Bool, true, false, ◌&&◌, Option, Some, None, refl, sym, ap, ◌∙◌}
use Rattle.std.specs.Prelude.{nat_eq}
use Rattle.std.specs.Option.{option_eq}
use Rattle.std.specs.Cmp.Lexicographic.{pointwise}
use Rattle.std.proofs.lemmas.Bool.{and_parts}
use denote.Enum.Declared.{tag_of, declared}
use Rattle.cg_base.specs.Ids.{same_id}
use Rattle.cg_base.specs.IdLaws.{same_id-is}
use Rattle.cg_records.specs.contracts.primary.PrimaryPartialEq.TheImpl.{ghosts as primary}
use Rattle.cg_records.specs.contracts.vulnerable.VulnerablePartialEq.TheImpl.{ghosts as vulnerable}
use Rattle.cg_records.specs.contracts.yellow.YellowPartialEq.TheImpl.{ghosts as yellow}
use Rattle.cg_report.specs.declared.line.StateName.{StateName}
use Rattle.cg_report.specs.declared.line.StateName.TheVariants.{RegPrim, TransPrim, ExchangeStates, ExchangeActions, Construct, No, Un, NonPrim, Left}
use Rattle.cg_report.specs.declared.line.ShownPhase.{ShownPhase}
use Rattle.cg_report.specs.declared.line.ShownPhase.TheVariants.{Alone, Regular, Transitional}
use Rattle.cg_report.specs.declared.line.View.{View}
use Rattle.cg_report.specs.declared.line.UpLine.{UpLine}
use Rattle.cg_report.specs.declared.line.Line.{Line}
use Rattle.cg_report.specs.contracts.line.StateName.{enum}
use Rattle.cg_report.specs.contracts.line.StateNamePartialEq.TheImpl.{ghosts as state_name}
use Rattle.cg_report.specs.contracts.line.ShownPhasePartialEq.TheImpl.{ghosts as shown_phase}
use Rattle.cg_report.specs.contracts.line.ViewPartialEq.TheImpl.{ghosts as view}
use Rattle.cg_report.specs.contracts.line.UpLinePartialEq.TheImpl.{ghosts as up_line}
use Rattle.cg_report.specs.contracts.line.LinePartialEq.TheImpl.{ghosts as line}
use Rattle.cg_report.specs.contracts.line.LineEq.TheImpl.Laws.{laws-law}
use Rattle.cg_disk_records.specs.ValueLaws.{one-list, one-number, one-prim, one-record, one-yellow}

place : StateName → ℕ
place a = tag_of (declared enum) a

state_at : ℕ → StateName
state_at zero = RegPrim
state_at (suc zero) = TransPrim
state_at (suc (suc zero)) = ExchangeStates
state_at (suc (suc (suc zero))) = ExchangeActions
state_at (suc (suc (suc (suc zero)))) = Construct
state_at (suc (suc (suc (suc (suc zero))))) = No
state_at (suc (suc (suc (suc (suc (suc zero)))))) = Un
state_at (suc (suc (suc (suc (suc (suc (suc zero))))))) = NonPrim
state_at (suc (suc (suc (suc (suc (suc (suc (suc n)))))))) = Left

state-back : (a : StateName) → state_at (place a) ≡ a
unfolding state_at place
state-back RegPrim = refl
state-back TransPrim = refl
state-back ExchangeStates = refl
state-back ExchangeActions = refl
state-back Construct = refl
state-back No = refl
state-back Un = refl
state-back NonPrim = refl
state-back Left = refl

one-state : (a b : StateName) → state_name.eq a b ≡ true → a ≡ b
unfolding place
one-state a b e = sym (state-back a) ∙ ap state_at (one-number (place a) (place b) e) ∙ state-back b

one-phase : (a b : ShownPhase) → shown_phase.eq a b ≡ true → a ≡ b
one-phase Alone Alone e = refl
one-phase (Regular m) (Regular n) e = ap Regular (one-number m n e)
one-phase (Transitional m) (Transitional n) e = ap Transitional (one-number m n e)
one-phase Alone (Regular n) e = absurd (let clash : false ≡ true = e in cc)
one-phase Alone (Transitional n) e = absurd (let clash : false ≡ true = e in cc)
one-phase (Regular m) Alone e = absurd (let clash : false ≡ true = e in cc)
one-phase (Regular m) (Transitional n) e = absurd (let clash : false ≡ true = e in cc)
one-phase (Transitional m) Alone e = absurd (let clash : false ≡ true = e in cc)
one-phase (Transitional m) (Regular n) e = absurd (let clash : false ≡ true = e in cc)

both : (a : Bool) {b : Bool} → (a && b) ≡ true → (a ≡ true) × (b ≡ true)
both a {b} e = and_parts a b e

one-view : (a b : View) → view.eq a b ≡ true → a ≡ b
one-view a b e =
    let greens = both (nat_eq a.green_count b.green_count) e in
    let whites = both (nat_eq a.white_count b.white_count) greens.1 in
    let prims = both (primary.eq a.prim b.prim) whites.1 in
    let attempts = both (nat_eq a.attempt_index b.attempt_index) prims.1 in
    let marks = both (option_eq vulnerable.eq a.vulnerable b.vulnerable) attempts.1 in
    let yellows = both (yellow.eq a.yellow b.yellow) marks.1 in
    let reds = both (pointwise same_id a.reds b.reds) yellows.1 in
    let owns = both (pointwise same_id a.own b.own) reds.1 in
    let rest = both (pointwise nat_eq a.left b.left) owns.1 in
    λ i. record {
      green_count = one-number a.green_count b.green_count greens.0 i;
      white_count = one-number a.white_count b.white_count whites.0 i;
      prim = one-prim a.prim b.prim prims.0 i;
      attempt_index = one-number a.attempt_index b.attempt_index attempts.0 i;
      vulnerable = one-record a.vulnerable b.vulnerable marks.0 i;
      yellow = one-yellow a.yellow b.yellow yellows.0 i;
      reds = one-list same_id same_id-is a.reds b.reds reds.0 i;
      own = one-list same_id same_id-is a.own b.own owns.0 i;
      left = one-list nat_eq one-number a.left b.left rest.0 i;
      buffered = one-number a.buffered b.buffered rest.1 i;
    }

one-up : (a b : Option UpLine) → option_eq up_line.eq a b ≡ true → a ≡ b
one-up None None e = refl
one-up None (Some b) e = absurd (let clash : false ≡ true = e in cc)
one-up (Some a) None e = absurd (let clash : false ≡ true = e in cc)
one-up (Some a) (Some b) e =
    let first = both (state_name.eq a.state b.state) e in
    let second = both (shown_phase.eq a.phase b.phase) first.1 in
    ap Some (λ i. record {
      state = one-state a.state b.state first.0 i;
      phase = one-phase a.phase b.phase second.0 i;
      view = one-view a.view b.view second.1 i;
    })

pub one-line : (a b : Line) → line.eq a b ≡ true → a ≡ b
one-line a b e =
    let parts = both (nat_eq a.id b.id) e in
    λ i. record { id = one-number a.id b.id parts.0 i; up = one-up a.up b.up parts.1 i }

pub self-line : (a : Line) → line.eq a a ≡ true
self-line a = laws-law.refl a
