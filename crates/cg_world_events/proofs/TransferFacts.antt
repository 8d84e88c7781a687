-- The snapshots under way, after one was taken out or its giver went down, and the one of which pieces are taken.
use Rattle.std.proofs.Common.{◌≡◌, Bool, true, false, ℕ, zero, suc, ◌<◌, ◌≤◌, cond, not, List, [], ◌∷◌, length, Option, Some, None, is_some, refl, sym, ap, ◌∙◌, arith, filter, find, position, get_or, inl, inr, ⊎_elim, nat_lt, option_and_then}
use Rattle.std.specs.Prelude.{◌==◌, ◌&&◌}
use Rattle.std.specs.List.{remove, position_or_len, slice_get}
use Rattle.std.specs.Option.{option_map_or}
use Rattle.std.proofs.lemmas.List.Quantifiers.{position-Some}
use Rattle.std.proofs.lemmas.List.Folds.{find_at}
use Rattle.std.proofs.lemmas.List.Sums.{position_or_len_is}
use Rattle.std.proofs.lemmas.Option.{slice_get-get_or, slice_get_past}
use Rattle.std.proofs.lemmas.Bool.{cases_Bool, cases_lt, cond-true, lt-ltb, and_parts}
use Rattle.cg_base.specs.SetLaws.{filter-keeps, filter-drops}
use Rattle.cg_group.specs.declared.reason.Reason.{Reason}
use Rattle.cg_group.specs.declared.reason.Reason.TheVariants.{AlreadyUp}
use Rattle.cg_group.specs.Events.{go_down}
use Rattle.cg_group.specs.State.{GroupState, is_up}
use Rattle.cg_wire.specs.declared.message.Msg.{Msg}
use Rattle.cg_base.specs.Lists.{first_some}
use Rattle.cg_client.specs.Replica.{Replica}
use Rattle.cg_model.specs.World.{World, Node, TransferState, running, node_of, has_begun, with_node, bring_down}
use Rattle.cg_model.specs.Admission.{takes_part, never_named, joiner_left, not_green}
use Rattle.cg_model.specs.AdmissionCalls.{begun_already}
use Rattle.cg_model.specs.Step.{quietly, snapshot_for, without_snapshot, takes, transfer}
use Rattle.cg_world_events.specs.Grounds.{IsHosted}
use Rattle.cg_world_events.specs.Choosing.{Chooses}
use Rattle.cg_group.specs.RefusalLaws.{refuse_none}
use Rattle.cg_model.specs.NodeLaws.{snapshot-joiner}

-- ---- one is taken out

abbrev pub is_between : ℕ → ℕ → TransferState → Bool
is_between p joiner s = (s.joiner == joiner) && (s.giver == p)

abbrev pub is_other : ℕ → TransferState → Bool
is_other joiner s = not (s.joiner == joiner)

-- where one was found, it stands
pub found-there : (test : TransferState → Bool) (list : List TransferState) (i : ℕ) (d : TransferState) → position test list ≡ Some i →
    (i < length list) × (test (get_or list i d) ≡ true) × (find test list ≡ Some (get_or list i d))
found-there test list i d e =
    let w = position-Some test list i d e in
    let place : position_or_len test list ≡ i = position_or_len_is test list i d (omega (arith, w.0)) w.2 (λ lt. w.1) in
    (w.0, w.1, find_at test list ∙ ap (slice_get list) place ∙ slice_get-get_or list i d w.0)

pub found-nowhere : (test : TransferState → Bool) (list : List TransferState) → position test list ≡ None → find test list ≡ None
found-nowhere test list e =
    find_at test list ∙ slice_get_past list (position_or_len test list) (past (position_or_len test list) (length list) e)
  where
    past : (k n : ℕ) → cond (nat_lt k n) (Some k) None ≡ None → n ≤ k
    past k n e = ⊎_elim
        (λ (lt : k < n). absurd (let clash : Some k ≡ None = sym (cond-true (nat_lt k n) (Some k) None (lt-ltb k n lt)) ∙ e in cc)) (λ le. le) (cases_lt k n)

-- what is kept of the others is kept of all
filter-removed : (keep : TransferState → Bool) (list : List TransferState) (i : ℕ) (d : TransferState) → i < length list → keep (get_or list i d) ≡ false →
    filter keep (remove list i) ≡ filter keep list
filter-removed keep [] i d lt e = absurd (omega arith)
filter-removed keep (s ∷ list) zero d lt e = sym (filter-drops keep s list e)
filter-removed keep (s ∷ list) (suc i) d lt e =
    let rest : filter keep (remove list i) ≡ filter keep list = filter-removed keep list i d (omega arith) e in
    elim (cases_Bool (keep s)) [
      | inl stays ↦ filter-keeps keep s (remove list i) stays ∙ ap (λ z. s ∷ z) rest ∙ sym (filter-keeps keep s list stays)
      | inr goes ↦ filter-drops keep s (remove list i) goes ∙ rest ∙ sym (filter-drops keep s list goes)
    ]

pub record IsTakenOut (p joiner : ℕ) (list : List TransferState) (i : ℕ) (d : TransferState) : Type 0 where
  pub found : find (is_between p joiner) list ≡ Some (get_or list i d)
  pub others : filter (is_other joiner) (remove list i) ≡ filter (is_other joiner) list

pub taken-out : (p joiner : ℕ) (list : List TransferState) (i : ℕ) (d : TransferState) → position (is_between p joiner) list ≡ Some i → IsTakenOut p joiner list i d
taken-out p joiner list i d e =
    let there = found-there (is_between p joiner) list i d e in
    let s = get_or list i d in
    let same : (s.joiner == joiner) ≡ true = (and_parts (s.joiner == joiner) (s.giver == p) there.1).0 in
    record { found = there.2; others = filter-removed (is_other joiner) list i d there.0 (ap not same) }

-- ---- its pieces

pub chosen-down : (old new : World) (p joiner : ℕ) (s : TransferState) → Chooses old new p joiner (Some s) → is_up old.group joiner ≡ false → is_up new.group s.joiner ≡ false
chosen-down old new p joiner s chosen down =
    ap (λ (w : World). is_up w.group s.joiner) chosen.3 ∙ ap (λ (x : TransferState). is_up old.group x.joiner) chosen.2 ∙ ap (is_up old.group) (snapshot-joiner old p joiner chosen.0) ∙ down

pub chosen-takes : (old new : World) (p joiner pieces : ℕ) (s : TransferState) → Chooses old new p joiner (Some s) → takes new s pieces ≡ transfer old p joiner pieces
chosen-takes old new p joiner pieces s chosen =
    let r = chosen.0 in
    let t = snapshot_for old p joiner r in
    ap (λ (w : World). takes w s pieces) chosen.3
    ∙ ap (λ (x : TransferState). takes (without_snapshot old joiner) x pieces) chosen.2
    ∙ ap (λ n. takes (without_snapshot old n) t pieces) (sym (snapshot-joiner old p joiner r))
    ∙ sym (ap (λ o. option_map_or (λ (r : Replica). takes (without_snapshot old (snapshot_for old p joiner r).joiner) (snapshot_for old p joiner r) pieces) o (quietly old)) chosen.1)

-- ---- where a transfer is admitted its joiner isn't up

third-none : (a b c d e : Option Reason) → first_some (a ∷ b ∷ c ∷ d ∷ e ∷ []) ≡ None → c ≡ None
third-none (Some x) b c d e is = absurd (let clash : Some x ≡ None = is in cc)
third-none None (Some x) c d e is = absurd (let clash : Some x ≡ None = is in cc)
third-none None None (Some x) d e is = absurd (let clash : Some x ≡ None = is in cc)
third-none None None None d e is = refl

pub joiner-down : (w : World) (p joiner : ℕ) → IsHosted w → first_some (takes_part w p ∷ never_named w joiner ∷ begun_already w joiner ∷ joiner_left w p joiner ∷ not_green w p joiner ∷ []) ≡ None → is_up w.group joiner ≡ false
joiner-down w p joiner is admitted =
    let third : begun_already w joiner ≡ None =
    third-none (takes_part w p) (never_named w joiner) (begun_already w joiner) (joiner_left w p joiner) (not_green w p joiner) admitted in
    let fresh : has_begun w joiner ≡ false = refuse_none (has_begun w joiner) (AlreadyUp joiner) third in
    sym (is.up joiner) ∙ none-runs (node_of w joiner) fresh
  where
    none-runs : (o : Option Node) → is_some o ≡ false → is_some (option_and_then (λ (s : Node). running s.life) o) ≡ false
    none-runs None e = refl
    none-runs (Some s) e = absurd (let clash : true ≡ false = e in cc)

-- ---- a giver goes down

-- what stands where its node stands again, the group doesn't have it any more, and its snapshots have ended
pub down-with : (w : World) (s : Node) (p : ℕ) (group : GroupState Msg) (nodes : List Node) (snapshots : List TransferState) → p ≡ s.id →
    group ≡ go_down w.group p → nodes ≡ with_node w.nodes s → snapshots ≡ filter (λ t. not (t.giver == p)) w.snapshots →
    record w { group = group; nodes = nodes; snapshots = snapshots } ≡ bring_down w s.id s.life
down-with w s p group nodes snapshots same down put ended =
    λ i. record w {
      group = (down ∙ ap (go_down w.group) same) i;
      nodes = put i;
      snapshots = (ended ∙ ap (λ m. filter (λ (t : TransferState). not (t.giver == m)) w.snapshots) same) i;
    }
