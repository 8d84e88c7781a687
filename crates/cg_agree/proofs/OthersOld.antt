-- Behind an admitted event the line of a replica that it doesn't touch is the last printed one.
use Rattle.std.proofs.Common.{◌≡◌, ℕ, false, not, cond, List, [], ◌∷◌, map, filter, find, Option, Some, None, IfSome, option_map, refl, sym, ap, subst, ◌∙◌, inl, inr}
use Rattle.std.specs.Prelude.{◌==◌}
use Rattle.std.specs.Option.{option_map_or}
use Rattle.std.proofs.lemmas.Bool.{cases_Bool, cond-true, cond-false}
use Rattle.cg_base.specs.Sets.{has}
use Rattle.cg_base.specs.Lists.{Each}
use Rattle.cg_base.specs.EachLaws.{Each-weaker}
use Rattle.cg_group.specs.State.{GroupState, phase_of}
use Rattle.cg_wire.specs.declared.message.Msg.{Msg}
use Rattle.cg_report.specs.declared.line.Line.{Line}
use Rattle.cg_report.specs.contracts.line.LinePartialEq.TheImpl.{ghosts as same_line}
use Rattle.cg_client.specs.Replica.{Held}
use Rattle.cg_schedule.specs.declared.event.Event.{Event}
use Rattle.cg_model.specs.World.{Node, World, no_world, running, node_of}
use Rattle.cg_model.specs.Admission.{first_refusal}
use Rattle.cg_model.specs.Show.{line_of, up_line, is_news, ended}
use Rattle.cg_model.specs.Step.{happens, world_step}
use Rattle.cg_model.specs.Run.{MayStand}
use Rattle.cg_model.specs.Chronicle.{Chronicle, no_chronicle}
use Rattle.cg_model.specs.Looks.{disk_held}
use Rattle.cg_model.specs.Noting.{chronicle_step}
use Rattle.cg_model.specs.FactsLists.{IsRising}
use Rattle.cg_model.specs.Played.{StandsBeside, HoldsFrom}
use Rattle.cg_model.specs.Standing.{LeadTo, IsReached}
use Rattle.cg_model.specs.PhaseLaws.{phase_at, phase-where}
use Rattle.cg_model.specs.Touched.{touched, OthersShowNothingNew}
use Rattle.cg_agree.proofs.AlwaysMade.{always-holds}
use Rattle.cg_agree.proofs.EventsLead.{are-admitted, always-stands}
use Rattle.cg_agree_lemmas.specs.HappensLines.{happens-lines}
use Rattle.cg_agree.proofs.LinesShown.{ArePrinted, stepped-printed, each-find}
use Rattle.cg_agree.proofs.PrimaryOne.{IsFoundFrom, found-all, holds-here}
use Rattle.cg_equalities.specs.LineLaws.{self-line}
use Rattle.cg_agree_lemmas.specs.TouchedNodes.{happens-stays}

-- ---- worlds that events lead to

nodes-rise : (c : Chronicle) (w : World) → StandsBeside c w → IsRising 0 (map (λ s. s.id) w.nodes)
nodes-rise c w stands = subst (IsRising 0) (sym stands.same.nodes) stands.facts.lists.nodes

printed-on : (c : Chronicle) (w : World) (events : List Event) (d : Chronicle) (v : World) → LeadTo c w events d v → HoldsFrom c w events → ArePrinted w → ArePrinted v
printed-on c w [] d v lead holds printed = subst ArePrinted lead.1 printed
printed-on c w (e ∷ events) d v lead holds printed =
    let behind = holds-here (chronicle_step c w e) (world_step w e).world events holds.1 in
    printed-on (chronicle_step c w e) (world_step w e).world events d v lead.2 holds.1 (stepped-printed w e (nodes-rise (chronicle_step c w e) (world_step w e).world behind))

-- the last printed line of each replica is its line as it stands
pub reached-printed : (c : Chronicle) (w : World) → IsReached c w → ArePrinted w
reached-printed c w is =
    printed-on no_chronicle no_world is.events c w is.lead (always-holds is.events (are-admitted no_chronicle no_world is.events c w is.lead)) tt

-- ---- behind an event

module _ (c : Chronicle) (w : World) (e : Event) (is : IsReached c w) (may : MayStand w e) (admitted : first_refusal w e ≡ None) where
  named : (p : ℕ) → IfSome (disk_held w p) (λ h. h.id ≡ p)
  named p =
      let stands = always-stands.beside c w is in
      subst (λ (o : Option Held). IfSome o (λ h. h.id ≡ p)) (sym (stands.same.disk p)) (stands.facts.net.hosted.disk p)

  rises : IsRising 0 (map (λ s. s.id) (happens w e).world.nodes)
  unfolding world_step ended
  rises = nodes-rise (chronicle_step c w e) (world_step w e).world (always-stands.beside (chronicle_step c w e) (world_step w e).world (always-stands.step c w e is may admitted))

  abbrev IsOld : Node → Type 0
  IsOld s = has (touched e) s.id ≡ false → is_news (happens w e).world.lines (line_of (happens w e).world.group s) ≡ false

  is-old : (s : Node) → node_of (happens w e).world s.id ≡ Some s → IsOld s
  is-old s there out =
      let stays = happens-stays s.id w e named out in
      let before : node_of w s.id ≡ Some s = sym stays.node ∙ there in
      let phase : phase_of w.group s.id ≡ phase_of (happens w e).world.group s.id =
      phase-where w.group s.id ∙ ap phase_at (sym stays.place) ∙ sym (phase-where (happens w e).world.group s.id) in
      let l = line_of (happens w e).world.group s in
      let line : line_of w.group s ≡ l = λ i. record { id = s.id; up = option_map (up_line (phase i)) (running s.life) } in
      let printed = each-find (λ s. find (λ l. l.id == s.id) w.lines ≡ Some (line_of w.group s)) (λ x. x.id == s.id) w.nodes s (reached-printed c w is) before in
      let last : find (λ old. old.id == s.id) (happens w e).world.lines ≡ Some l =
      ap (λ (lines : List Line). find (λ old. old.id == s.id) lines) (happens-lines w e) ∙ printed ∙ ap Some line in
      ap (λ (o : Option Line). not (option_map_or (same_line.eq l) o false)) last ∙ ap not (self-line l)

  old-all : Each IsOld (happens w e).world.nodes
  old-all =
      let nodes = (happens w e).world.nodes in
      Each-weaker (IsFoundFrom 0 nodes) IsOld (λ s found. is-old s found.1) nodes (found-all nodes 0 rises)

-- of nodes whose lines are old nothing is new
passed-over : (set : List ℕ) (lines : List Line) (g : GroupState Msg) (nodes : List Node) → Each (λ s. has set s.id ≡ false → is_news lines (line_of g s) ≡ false) nodes →
    filter (is_news lines) (map (line_of g) nodes) ≡ filter (is_news lines) (map (line_of g) (filter (λ s. has set s.id) nodes))
passed-over set lines g [] old = refl
passed-over set lines g (s ∷ nodes) old =
    let news : List Node → List Line = λ list. filter (is_news lines) (map (line_of g) list) in
    let kept = filter (λ (s : Node). has set s.id) nodes in
    let l = line_of g s in
    let rest : news nodes ≡ news kept = passed-over set lines g nodes old.1 in
    elim (cases_Bool (has set s.id)) [
      | inl inside ↦ ap (cond (is_news lines l) (l ∷ news nodes)) rest ∙ ap (λ (list : List Line). cond (is_news lines l) (l ∷ list) (news kept)) rest
          ∙ sym (ap news (cond-true (has set s.id) (s ∷ kept) kept inside))
      | inr outside ↦ cond-false (is_news lines l) (l ∷ news nodes) (news nodes) (old.0 outside) ∙ rest ∙ sym (ap news (cond-false (has set s.id) (s ∷ kept) kept outside))
    ]

pub others-show-nothing-new : OthersShowNothingNew
others-show-nothing-new c w e is may admitted =
    let v = (happens w e).world in
    passed-over (touched e) v.lines v.group v.nodes (old-all c w e is may admitted)
