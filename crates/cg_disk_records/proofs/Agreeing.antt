-- When the parts of a checkpoint agree.
use Rattle.std.proofs.Common.{◌≡◌, ◌≢◌, ℕ, zero, suc, ◌+◌, ◌-◌, ◌<◌, ◌≤◌, max, Bool, true, false, cond, ◌&&◌, ◌||◌, eqb, ltb, leb, List, [], ◌∷◌, length, drop, get_or, refl, sym, ap, ◌∙◌, arith}
use Rattle.std.specs.Prelude.{map, filter, fold, sum_by, nat_eq, Option, Some, None}
use Rattle.std.specs.List.{list_all, list_any}
use Rattle.std.specs.Cmp.Lexicographic.{pointwise, same_text}
use Rattle.std.specs.Option.{option_map_or}
use Rattle.std.proofs.lemmas.Option.{slice_get-get_or}
use Rattle.std.proofs.Math.Seq.{drop-cons}
use Rattle.std.proofs.lemmas.List.{drop_all}
use Rattle.std.proofs.lemmas.Bool.{eqb-true, eqb-false, ltb-true, and_parts, and_from}
use Rattle.cg_base.specs.declared.action_id.ActionId.{ActionId}
use Rattle.cg_base.specs.Ids.{same_id, has_name}
use Rattle.cg_base.specs.Cuts.{index_in, raise, with_top}
use Rattle.cg_base.specs.Lists.{count_up, above_up_to, Each}
use Rattle.cg_base.specs.Sets.{IsId}
use Rattle.cg_base.specs.Replicas.{every_replica}
use Rattle.cg_base.specs.SetLaws.{each-replica}
use Rattle.cg_action.specs.declared.action.Action.{Action}
use Rattle.cg_action.specs.ActionLimits.{IsAction}
use Rattle.cg_queue.specs.Distinct.{is_distinct}
use Rattle.cg_queue.specs.Queue.{green_count, names_of}
use Rattle.cg_client.specs.Replica.{last_index, created}
use Rattle.cg_client.specs.OwnLaws.{last_index-get}
use Rattle.cg_records.specs.Limits.{IsIndex, IsName}
use Rattle.cg_disk_records.specs.declared.checkpoint.Checkpoint.{Checkpoint}
use Rattle.cg_disk_records.specs.Limits.{AreParts}
use Rattle.cg_disk_records.specs.Parts.{next_index, red_cut_of, queue_in, stored_in, Fits, is_between_cuts, greens_agree, yellow_agrees, do_agree}
use Rattle.cg_disk_records.specs.Following.{are_yellow}
use Rattle.cg_disk_records.specs.Agreeing.{indexes_of, counts_up, is_by_name, is_present}

-- ---- red names

-- a name among actions is an index among its creator's
named-at : (a : Action) (rest : List Action) (id : ActionId) (same : Bool) → eqb a.id.creator id.creator ≡ same → has_name (names_of rest) id ≡ list_any (λ n. eqb n id.index) (indexes_of rest id.creator)
    → (same_id id a.id || has_name (names_of rest) id) ≡ list_any (λ n. eqb n id.index) (map (λ (b : Action). b.id.index) (cond same (a ∷ filter (λ b. eqb b.id.creator id.creator) rest) (filter (λ b. eqb b.id.creator id.creator) rest)))
named-at a rest id true e so_far =
    let is : a.id.creator ≡ id.creator = eqb-true _ _ e in
    let same : eqb id.creator a.id.creator ≡ true = grind (arith, is) in
    let index : eqb id.index a.id.index ≡ eqb a.id.index id.index = grind arith in
    rw (same, index, so_far) refl
named-at a rest id false e so_far =
    let apart : a.id.creator ≢ id.creator = eqb-false _ _ e in
    let other : eqb id.creator a.id.creator ≡ false = grind (arith, apart) in
    rw (other, so_far) refl

named : (actions : List Action) (id : ActionId) → has_name (names_of actions) id ≡ list_any (λ n. eqb n id.index) (indexes_of actions id.creator)
named [] id = refl
named (a ∷ rest) id = named-at a rest id (eqb a.id.creator id.creator) refl (named rest id)

-- an index among numbers that count up
counted : (from n k : ℕ) → list_any (λ m. eqb m k) (count_up from n) ≡ (leb from k && ltb k (from + n))
counted from zero k = grind arith
counted from (suc n) k = rw (counted (suc from) n k) (grind arith)

above : (low high k : ℕ) → list_any (λ m. eqb m k) (above_up_to low high) ≡ (ltb low k && leb k high)
above low high k = counted (suc low) (high - low) k ∙ grind arith

-- each creator's reds count up from its green cut to its red cut
reds-counted : (p : Checkpoint) → list_all (counts_up (queue_in p)) every_replica ≡ true → (c : ℕ) → IsId c → indexes_of p.kept.reds c ≡ above_up_to (index_in p.reached.cut c) (index_in (red_cut_of p) c)
reds-counted p all c is =
    let one = each-replica (counts_up (queue_in p)) c all is in
    let parts = and_parts _ _ one in
    same_text _ _ (sym parts.1)

-- so a name is red where it is between the cuts
red-between : (p : Checkpoint) → list_all (counts_up (queue_in p)) every_replica ≡ true → (id : ActionId) → IsId id.creator → has_name (names_of p.kept.reds) id ≡ is_between_cuts p id
red-between p all id is =
    named p.kept.reds id
    ∙ ap (λ (ns : List ℕ). list_any (λ n. eqb n id.index) ns) (reds-counted p all id.creator is)
    ∙ above (index_in p.reached.cut id.creator) (index_in (red_cut_of p) id.creator) id.index

reds-between : (p : Checkpoint) → list_all (counts_up (queue_in p)) every_replica ≡ true → (ids : List ActionId) → Each IsName ids → list_all (has_name (names_of p.kept.reds)) ids ≡ list_all (is_between_cuts p) ids
reds-between p all [] each = refl
reds-between p all (id ∷ ids) each = rw (red-between p all id each.0.0, reds-between p all ids each.1) refl

yellow-same : (p : Checkpoint) → list_all (counts_up (queue_in p)) every_replica ≡ true → Each IsName p.stable.yellow.list → are_yellow (queue_in p) p.stable.yellow.list ≡ yellow_agrees p
yellow-same p all each = ap (λ b. is_distinct p.stable.yellow.list && b) (reds-between p all p.stable.yellow.list each)

-- ---- the test says what is meant

pub fits-agree : (id : ℕ) (p : Checkpoint) → AreParts p → Fits id p → do_agree id p ≡ true
unfolding do_agree
fits-agree id p are fits =
    let g = fits.agrees in
    let sum : eqb (sum_by (λ top. top.index) p.reached.cut) p.reached.count ≡ true = same-eqb (g.count ∙ sym fits.count) in
    let present : list_all (is_present p.reached.count p.reached.members.left) p.reached.members.servers ≡ true = rw fits.count g.members in
    let each : list_all (counts_up (queue_in p)) every_replica ≡ true = g.each in
    let yellow : yellow_agrees p ≡ true = sym (yellow-same p each are.stable.yellow.names) ∙ g.yellow in
    and_from _ _ (and_from _ _ (same-eqb fits.count) (and_from _ _ sum present))
    (and_from _ _ each (and_from _ _ (same-eqb fits.created) (and_from _ _ (g.by_name) (and_from _ _ yellow (g.own)))))
  where
    same-eqb : {m n : ℕ} → m ≡ n → eqb m n ≡ true
    same-eqb {m} {n} e = grind (arith, e)

pub agree-fits : (id : ℕ) (p : Checkpoint) → AreParts p → do_agree id p ≡ true → Fits id p
unfolding do_agree
agree-fits id p are agree =
    let a = and_parts (greens_agree p) _ agree in
    let greens = and_parts (eqb p.reached.count (green_count (queue_in p))) _ a.0 in
    let more = and_parts (eqb (sum_by (λ top. top.index) p.reached.cut) p.reached.count) _ greens.1 in
    let b = and_parts (list_all (counts_up (queue_in p)) every_replica) _ a.1 in
    let named = and_parts (eqb p.stable.created (created (stored_in id p))) _ b.1 in
    let others = and_parts (is_by_name p.kept.reds) _ named.1 in
    let last = and_parts (yellow_agrees p) _ others.1 in
    let count : p.reached.count ≡ green_count (queue_in p) = eqb-true _ _ greens.0 in
    record {
      count = count;
      created = eqb-true _ _ named.0;
      agrees = record {
        members = (rw count at more.1);
        count = eqb-true _ _ more.0 ∙ count;
        each = b.0;
        red_cut = refl;
        by_name = others.0;
        yellow = (yellow-same p b.0 are.stable.yellow.names ∙ last.0);
        own = last.1;
        buffered = refl;
        owed = refl;
      };
    }

-- ---- the cut of the reds

small-top : (cut : List ActionId) (id : ActionId) → Each (λ top. IsIndex top.index) cut → IsIndex id.index → Each (λ top. IsIndex top.index) (with_top cut id)
small-top [] id each is = (is, tt)
small-top (top ∷ cut) id each is = by_creator (eqb top.creator id.creator) (ltb id.creator top.creator) (small-top cut id each.1 is)
  where
    by_creator : (same before : Bool) → Each (λ t. IsIndex t.index) (with_top cut id) → Each (λ t. IsIndex t.index) (cond same (record top { index = max top.index id.index } ∷ cut) (cond before (id ∷ top ∷ cut) (top ∷ with_top cut id)))
    by_creator true before rest = let a = each.0 in ((omega (arith, a.0, is.0), omega (arith, a.1, is.1)), each.1)
    by_creator false true rest = (is, each)
    by_creator false false rest = (each.0, rest)

small-raise : (cut : List ActionId) (id : ActionId) → Each (λ top. IsIndex top.index) cut → IsIndex id.index → Each (λ top. IsIndex top.index) (raise cut id)
small-raise cut id each is = by_index (eqb id.index 0) (small-top cut id each is)
  where
    by_index : (b : Bool) → Each (λ t. IsIndex t.index) (with_top cut id) → Each (λ t. IsIndex t.index) (cond b cut (with_top cut id))
    by_index true raised = each
    by_index false raised = raised

pub small-raised : (reds : List Action) (cut : List ActionId) → Each (λ top. IsIndex top.index) cut → Each IsAction reds → Each (λ top. IsIndex top.index) (fold raise cut (names_of reds))
small-raised [] cut each actions = each
small-raised (a ∷ reds) cut each actions =
    let id = actions.0.id in
    small-raised reds (raise cut a.id) (small-raise cut a.id each (id.from_one, id.below)) actions.1

-- ---- the loops of the test

pub all-step : (P : ℕ → Bool) (n : ℕ) → n < 32 → P (n + 1) ≡ true → list_all P (count_up (n + 1) (32 - n)) ≡ list_all P (count_up (n + 1 + 1) (32 - (n + 1)))
all-step P n lt here =
    let one : 32 - n ≡ suc (32 - (n + 1)) = omega arith in
    let next : suc (n + 1) ≡ n + 1 + 1 = omega arith in
    ap (λ k. list_all P (count_up (n + 1) k)) one ∙ ap (λ b. b && list_all P (count_up (suc (n + 1)) (32 - (n + 1)))) here ∙ ap (λ k. list_all P (count_up k (32 - (n + 1)))) next

-- an index is the next one, and the others behind it go on from there
counts-on : (n : ℕ) (ns : List ℕ) (at high : ℕ) (before : Bool) → ltb at high ≡ before
    → pointwise nat_eq (n ∷ ns) (above_up_to at high) ≡ cond (before && eqb n (suc at)) (pointwise nat_eq ns (above_up_to (suc at) high)) false
counts-on n ns at high true e =
    let lt : at < high = ltb-true at high e in
    let one : high - at ≡ suc (high - suc at) = omega arith in
    ap (λ k. pointwise nat_eq (n ∷ ns) (count_up (suc at) k)) one ∙ as-cond (eqb n (suc at)) (pointwise nat_eq ns (above_up_to (suc at) high))
  where
    as-cond : (b c : Bool) → (b && c) ≡ cond b c false
    as-cond true c = refl
    as-cond false c = refl
counts-on n ns at high false e =
    let none : high - at ≡ 0 = grind (arith, e) in
    ap (λ k. pointwise nat_eq (n ∷ ns) (count_up (suc at) k)) none

-- whether actions count on behind an index, if there is one
abbrev pub go_on_from : List Action → ℕ → ℕ → Option ℕ → Bool
go_on_from rest id high None = false
go_on_from rest id high (Some at) = pointwise nat_eq (indexes_of rest id) (above_up_to at high)

go-on-at : (a : Action) (rest : List Action) (id at high : ℕ) (mine fits : Bool) → (pointwise nat_eq (a.id.index ∷ indexes_of rest id) (above_up_to at high) ≡ cond fits (pointwise nat_eq (indexes_of rest id) (above_up_to (suc at) high)) false)
    → pointwise nat_eq (map (λ (b : Action). b.id.index) (cond mine (a ∷ filter (λ b. eqb b.id.creator id) rest) (filter (λ b. eqb b.id.creator id) rest))) (above_up_to at high)
    ≡ go_on_from rest id high (cond mine (cond fits (Some (suc at)) None) (Some at))
go-on-at a rest id at high true true e = e
go-on-at a rest id at high true false e = e
go-on-at a rest id at high false fits e = refl

pub go-on : (a : Action) (rest : List Action) (id at high : ℕ) → pointwise nat_eq (indexes_of (a ∷ rest) id) (above_up_to at high) ≡ go_on_from rest id high (next_index a id at high)
go-on a rest id at high =
    go-on-at a rest id at high (eqb a.id.creator id) (ltb at high && eqb a.id.index (suc at)) (counts-on a.id.index (indexes_of rest id) at high (ltb at high) refl)

-- no action is left
pub go-on-end : (at high : ℕ) → pointwise nat_eq [] (above_up_to at high) ≡ leb high at
go-on-end at high = last (high - at) (leb high at) (λ e. grind (arith, e)) (λ e. grind (arith, e))
  where
    last : (n : ℕ) (b : Bool) → (n ≡ 0 → b ≡ true) → (1 ≤ n → b ≡ false) → pointwise nat_eq [] (count_up (suc at) n) ≡ b
    last zero b none some = sym (none refl)
    last (suc n) b none some = sym (some (omega arith))

-- own actions are all of the replica's, so that their indexes are those of its actions
pub own-indexes : (own : List Action) (id : ℕ) → list_all (λ a. eqb a.id.creator id) own ≡ true → indexes_of own id ≡ map (λ (a : Action). a.id.index) own
own-indexes [] id all = refl
own-indexes (a ∷ own) id all =
    let parts = and_parts (eqb a.id.creator id) _ all in
    rw (parts.0, own-indexes own id parts.1) refl

-- the same of the actions that a loop has left

abbrev counted_from : List Action → ℕ → ℕ → ℕ → Bool
counted_from left id at high = pointwise nat_eq (indexes_of left id) (above_up_to at high)

first-left : (actions : List Action) (i : ℕ) (a : Action) → i < length actions → get_or actions i a ≡ a → drop i actions ≡ a ∷ drop (i + 1) actions
first-left actions i a lt is = let next : suc i ≡ i + 1 = omega arith in drop-cons actions i a lt ∙ ap (λ x. x ∷ drop (suc i) actions) is ∙ ap (λ n. a ∷ drop n actions) next

pub counts-left : (actions : List Action) (i : ℕ) (a : Action) (id at high next : ℕ) → i < length actions → get_or actions i a ≡ a → next_index a id at high ≡ Some next
    → counted_from (drop (i + 1) actions) id next high ≡ counted_from (drop i actions) id at high
counts-left actions i a id at high next lt is found =
    sym (ap (λ left. counted_from left id at high) (first-left actions i a lt is) ∙ go-on a (drop (i + 1) actions) id at high ∙ ap (go_on_from (drop (i + 1) actions) id high) found)

pub counts-stop : (actions : List Action) (i : ℕ) (a : Action) (id at high : ℕ) → i < length actions → get_or actions i a ≡ a → next_index a id at high ≡ None → counted_from (drop i actions) id at high ≡ false
counts-stop actions i a id at high lt is found =
    ap (λ left. counted_from left id at high) (first-left actions i a lt is) ∙ go-on a (drop (i + 1) actions) id at high ∙ ap (go_on_from (drop (i + 1) actions) id high) found

pub counts-end : (actions : List Action) (i : ℕ) (id at high : ℕ) → length actions ≤ i → counted_from (drop i actions) id at high ≡ leb high at
counts-end actions i id at high le = ap (λ left. counted_from left id at high) (drop_all i actions le) ∙ go-on-end at high

-- ---- the last action

pub last-at : (actions : List Action) (a : Action) → 1 ≤ length actions → (get_or actions (length actions - 1) a).id.index ≡ last_index actions
last-at actions a some =
    ap (λ o. option_map_or (λ (x : Action). x.id.index) o 0) (sym (slice_get-get_or actions (length actions - 1) a (omega arith))) ∙ last_index-get actions

pub last-none : (actions : List Action) → length actions ≡ 0 → 0 ≡ last_index actions
last-none [] none = refl
last-none (a ∷ rest) none = absurd (omega arith)
