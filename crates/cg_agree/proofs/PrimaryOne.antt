-- No primary index names two components in what a run shows: each line's component is the one of its index, and stays so.
use Rattle.std.proofs.Common.{◌⊎◌, ◌≡◌, ℕ, suc, ◌≤◌, List, [], ◌∷◌, map, filter, find, length, Option, Some, None, IfSome, Contains, refl, sym, ap, ◌∙◌, subst, inl, inr, arith, eq-eqb, option_and_then}
use Rattle.std.specs.Prelude.{◌==◌}
use Rattle.std.proofs.lemmas.Bool.{cases_eq, cond-true, cond-false, ne_eqb}
use Rattle.cg_base.specs.EachLaws.{Each-weaker, Each-filter, Each-append}
use Rattle.cg_base.specs.Lists.{present, Each}
use Rattle.cg_base.specs.declared.weighted.Weighted.{Weighted}
use Rattle.cg_records.specs.declared.primary.Primary.{Primary}
use Rattle.cg_wire.specs.declared.message.Msg.{Msg}
use Rattle.cg_group.specs.State.{GroupState}
use Rattle.cg_client.specs.Replica.{Replica}
use Rattle.cg_client.specs.Queries.{view_of}
use Rattle.cg_report.specs.declared.line.Line.{Line}
use Rattle.cg_report.specs.declared.line.UpLine.{UpLine}
use Rattle.cg_schedule.specs.declared.event.Event.{Event}
use Rattle.cg_schedule.specs.declared.event.Event.TheVariants.{Start}
use Rattle.cg_model.specs.World.{NodeState, Up, Down, Node, World, no_world, running, replica_of}
use Rattle.cg_model.specs.Show.{Moved, line_of, is_news, ended}
use Rattle.cg_model.specs.Step.{happens, world_step}
use Rattle.cg_model.specs.Run.{Step, MayStand, IsRunFrom}
use Rattle.cg_model.specs.Shown.{lines_in, all_up_lines}
use Rattle.cg_model.specs.Chronicle.{Chronicle, no_chronicle}
use Rattle.cg_model.specs.Looks.{top_of, attempt_at}
use Rattle.cg_model.specs.Levels.{prim_at, prim_of}
use Rattle.cg_model.specs.FactsLists.{IsRising}
use Rattle.cg_model.specs.Noting.{chronicle_step, chronicle_after}
use Rattle.cg_model.specs.Played.{StandsBeside, HoldsFrom, AlwaysHolds}
use Rattle.cg_model.specs.NodeLaws.{IsHosted, nodes_stay}
use Rattle.cg_agree_lemmas.specs.ReachWorld.{opened-at, opened-attempt}
use Rattle.cg_agree.proofs.CreatorNumbered.{admitted-of}
use Rattle.cg_agree.proofs.PrimStays.{StaysOn, stays-refl, stays-then, event-stays, IsKnownIn, known-stays, known-same}
use Rattle.cg_base.specs.ElementLaws.{each-contains}

-- ---- a replica knows the component of its index

known-of : (c : Chronicle) (w : World) → StandsBeside c w → (p : ℕ) (r : Replica) → replica_of w p ≡ Some r → IsKnownIn c r.held.prim
known-of c w stands p r runs =
    let here : replica_of c.world p ≡ Some r = sym (stands.same.running p) ∙ runs in
    let prim = r.held.prim in
    let known = subst (λ (o : Option Replica). IfSome o (λ r. (r.held.prim.index ≤ top_of c) × (r.held.prim ≡ prim_at c r.held.prim.index))) here (stands.facts.attempt.levels_stand.known.memory p) in
    elim (cases_eq prim.index 0) [
      | inl none ↦
          let is : prim ≡ record { index = 0; conf = 0; set = c.start } =
          known.1 ∙ cond-true (prim.index == 0) (let x : Primary = record { index = 0; conf = 0; set = c.start } in x) (prim_of c prim.index (attempt_at c prim.index)) (eq-eqb prim.index 0 none) in
          inl (none, ap (λ (x : Primary). x.conf) is, ap (λ (x : Primary). x.set) is)
      | inr some ↦
          let within = known.0 in
          let o = opened-at c prim.index stands.facts.attempt.levels_stand (omega arith) within in
          inr (record {
            conf = o.conf;
            attempt = o.attempt;
            some = omega arith;
            within = within;
            place = o.place;
            found = o.found;
            is = known.1 ∙ cond-false (prim.index == 0) (let x : Primary = record { index = 0; conf = 0; set = c.start } in x) (prim_of c prim.index (attempt_at c prim.index)) (ne_eqb prim.index 0 some)
                ∙ ap (prim_of c prim.index) (opened-attempt c prim.index o);
          })
    ]

-- ---- the lines of a step

abbrev pub OfLine : Chronicle → Line → Type 0
OfLine c l = IfSome l.up (λ up. IsKnownIn c up.view.prim)

-- each node is the one of its number
abbrev pub IsFoundFrom : ℕ → List Node → Node → Type 0
IsFoundFrom low nodes s = (low ≤ s.id) × (find (λ x. x.id == s.id) nodes ≡ Some s)

pub found-all : (nodes : List Node) (low : ℕ) → IsRising low (map (λ s. s.id) nodes) → Each (IsFoundFrom low nodes) nodes
found-all [] low rise = tt
found-all (s ∷ nodes) low rise =
    let first = rise.0 in (
      (first, cond-true (s.id == s.id) (Some s) (find (λ x. x.id == s.id) nodes) (eq-eqb s.id s.id refl)),
      Each-weaker (IsFoundFrom (suc s.id) nodes) (IsFoundFrom low (s ∷ nodes)) (λ x is. (
        (let above = is.0 in omega arith),
        cond-false (s.id == x.id) (Some s) (find (λ y. y.id == x.id) nodes) (ne_eqb s.id x.id (λ e. (let above = is.0 in omega arith))) ∙ is.1,
      )) nodes (found-all nodes (suc s.id) rise.1),
    )

node-line : (c : Chronicle) (w : World) → StandsBeside c w → (g : GroupState Msg) (s : Node) → find (λ x. x.id == s.id) w.nodes ≡ Some s → OfLine c (line_of g s)
unfolding view_of
node-line c w stands g s found = life s.life (ap (λ (o : Option Node). option_and_then (λ s. running s.life) o) found) where
  life : (l : NodeState) → replica_of w s.id ≡ running l → OfLine c (let x : Node = record { id = s.id; life = l } in line_of g x)
  life (Up r disk) runs = known-of c w stands s.id r runs
  life (Down disk green) runs = tt

nodes-lines : (c : Chronicle) (w : World) → StandsBeside c w → (g : GroupState Msg) (low : ℕ) (nodes : List Node) → Each (IsFoundFrom low w.nodes) nodes → Each (OfLine c) (map (line_of g) nodes)
nodes-lines c w stands g low [] each = tt
nodes-lines c w stands g low (s ∷ nodes) each = (node-line c w stands g s each.0.1, nodes-lines c w stands g low nodes each.1)

step-lines : (c : Chronicle) (w : World) (e : Event) → StandsBeside c (world_step w e).world → Each (OfLine c) (world_step w e).entry.lines
unfolding world_step ended
step-lines c w e stands =
    let x = (happens w e).world in
    let v = (world_step w e).world in
    let rise : IsRising 0 (map (λ s. s.id) x.nodes) = subst (IsRising 0) (sym stands.same.nodes) stands.facts.lists.nodes in
    Each-filter (OfLine c) (is_news x.lines) (map (line_of x.group) x.nodes) (nodes-lines c v stands x.group 0 x.nodes (found-all x.nodes 0 rise))

no-lines : (w : World) (e : Event) → (world_step w e).world.nodes ≡ [] → (world_step w e).entry.lines ≡ []
unfolding world_step ended
no-lines w e none = (let x = (happens w e).world in ap (λ (nodes : List Node). filter (is_news x.lines) (map (line_of x.group) nodes)) none)

-- ---- runs

pub holds-here : (c : Chronicle) (w : World) (events : List Event) → HoldsFrom c w events → StandsBeside c w
holds-here c w [] holds = holds
holds-here c w (e ∷ events) holds = holds.0

pub hosted-not : (w : World) (e : Event) → IsHosted w → MayStand w e → (set : List Weighted) → e ≡ Start set → ⊥
hosted-not w e hosted may set is =
    let both = subst (MayStand w) is may in
    let some : IsHosted no_world = subst IsHosted both.0 hosted in
    omega arith

pub stays-through : (c : Chronicle) (w : World) (steps : List Step) → IsRunFrom w steps → IsHosted w → StaysOn c (chronicle_after c w steps)
stays-through c w [] run hosted = stays-refl c
stays-through c w (s ∷ steps) run hosted =
    let d = chronicle_step c w s.event in
    let on : IsHosted s.world = subst IsHosted (sym (ap (λ (m : Moved). m.world) run.2)) (nodes_stay w s.event hosted) in
    stays-then c d (chronicle_after d s.world steps) (event-stays c w s.event (hosted-not w s.event hosted run.0)) (stays-through d s.world steps run.3 on)

lines-through : (c : Chronicle) (w : World) (steps : List Step) → IsRunFrom w steps → HoldsFrom c w (map (λ s. s.event) steps) → Each (OfLine (chronicle_after c w steps)) (lines_in steps)
lines-through c w [] run holds = tt
lines-through c w (s ∷ steps) run holds =
    let d = chronicle_step c w s.event in
    let end = chronicle_after d s.world steps in
    let next : HoldsFrom d s.world (map (λ s. s.event) steps) = subst (λ (v : World). HoldsFrom d v (map (λ s. s.event) steps)) (sym (ap (λ (m : Moved). m.world) run.2)) holds.1 in
    let stands : StandsBeside d s.world = holds-here d s.world (map (λ s. s.event) steps) next in
    let lines : Each (OfLine d) s.entry.lines =
    subst (λ (m : Moved). StandsBeside d m.world → Each (OfLine d) m.entry.lines) (sym run.2) (step-lines d w s.event) stands in
    let none : s.world.nodes ≡ [] → s.entry.lines ≡ [] = subst (λ (m : Moved). m.world.nodes ≡ [] → m.entry.lines ≡ []) (sym run.2) (no-lines w s.event) in
    Each-append (OfLine end) s.entry.lines (lines_in steps) (first d end s.entry.lines lines (hosted d end s.world none (λ some. stays-through d s.world steps run.3 some)))
    (lines-through d s.world steps run.3 next)
  where
    hosted : (d end : Chronicle) (v : World) → (v.nodes ≡ [] → s.entry.lines ≡ []) → (IsHosted v → StaysOn d end) → (s.entry.lines ≡ []) ⊎ StaysOn d end
    hosted d end v none on = at v.nodes refl where
      at : (nodes : List Node) → v.nodes ≡ nodes → (s.entry.lines ≡ []) ⊎ StaysOn d end
      at [] e = inl (none e)
      at (x ∷ nodes) e = inr (on (let many : length v.nodes ≡ suc (length nodes) = ap length e in omega arith))

    line-on : (d end : Chronicle) → StaysOn d end → (l : Line) → OfLine d l → OfLine end l
    line-on d end on l is = at l.up is where
      at : (o : Option UpLine) → IfSome o (λ up. IsKnownIn d up.view.prim) → IfSome o (λ up. IsKnownIn end up.view.prim)
      at None is = tt
      at (Some up) is = known-stays d end up.view.prim on is

    first : (d end : Chronicle) (lines : List Line) → Each (OfLine d) lines → (lines ≡ []) ⊎ StaysOn d end → Each (OfLine end) lines
    first d end lines each is = elim is [
      | inl none ↦ subst (Each (OfLine end)) (sym none) tt
      | inr on ↦ Each-weaker (OfLine d) (OfLine end) (line-on d end on) lines each
    ]

-- ---- lines that are shown

each-present : (P : UpLine → Type 0) (lines : List Line) → Each (λ l. IfSome l.up P) lines → Each P (present (map (λ l. l.up) lines))
each-present P [] each = tt
each-present P (l ∷ lines) each = at l.up each.0 (each-present P lines each.1) where
  at : (o : Option UpLine) → IfSome o P → Each P (present (map (λ l. l.up) lines)) → Each P (present (o ∷ map (λ l. l.up) lines))
  at None is rest = rest
  at (Some up) is rest = (is, rest)

-- No primary index names two components.
pub one-primary : AlwaysHolds → (steps : List Step) → IsRunFrom no_world steps → (a b : UpLine) → Contains (all_up_lines steps) a → Contains (all_up_lines steps) b →
    a.view.prim.index ≡ b.view.prim.index → (a.view.prim.conf ≡ b.view.prim.conf) × (a.view.prim.set ≡ b.view.prim.set)
one-primary always steps run a b of_a of_b same =
    let end = chronicle_after no_chronicle no_world steps in
    let lines = lines-through no_chronicle no_world steps run (always (map (λ s. s.event) steps) (admitted-of no_world steps run)) in
    let ups = each-present (λ up. IsKnownIn end up.view.prim) (lines_in steps) lines in
    known-same end a.view.prim b.view.prim (each-contains (λ up. IsKnownIn end up.view.prim) (all_up_lines steps) a ups of_a) (each-contains (λ up. IsKnownIn end up.view.prim) (all_up_lines steps) b ups of_b) same
