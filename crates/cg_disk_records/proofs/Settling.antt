-- What a commit leaves has a checkpoint: its parts agree.
use Rattle.std.proofs.Common.{◌≡◌, ℕ, suc, ◌+◌, ◌-◌, ◌≤◌, List, [], ◌∷◌, length, max, map, Bool, true, false, not, refl, sym, ap, ap₂, ◌∙◌, arith, inl, inr, nat_le}
use Rattle.std.specs.Prelude.{◌==◌, nat_eq}
use Rattle.std.specs.Cmp.Lexicographic.{pointwise}
use Rattle.std.specs.List.{list_all}
use Rattle.std.proofs.lemmas.Bool.{cases_eq, eq-eqb, ne_eqb, le-leb, and_parts, and_from, or_right, or_left}
use Rattle.cg_base.specs.declared.action_id.ActionId.{ActionId}
use Rattle.cg_base.specs.Cuts.{index_in, raise}
use Rattle.cg_base.specs.Ids.{id_before}
use Rattle.cg_base.specs.Lists.{count_up, above_up_to}
use Rattle.cg_base.specs.Sets.{has}
use Rattle.cg_base.specs.Replicas.{every_replica}
use Rattle.cg_action.specs.declared.action.Action.{Action}
use Rattle.cg_members.specs.declared.server.Server.{Server}
use Rattle.cg_members.specs.Servers.{is_among}
use Rattle.cg_members.specs.Laws.{NoLineAbove}
use Rattle.cg_queue.specs.Queue.{names_of, green_count}
use Rattle.cg_client.specs.Replica.{Held, created}
use Rattle.cg_disk_records.specs.Stored.{stored_of, whiten}
use Rattle.cg_disk_records.specs.Agreeing.{Agrees, indexes_of, count_to, counts_up, is_by_name, is_present}
use Rattle.cg_disk_records.specs.Holds.{run_on, cut_behind, ascend, Rising, CountsTo, Holds}
use Rattle.cg_disk_records.specs.CutRaiseLaws.{rising-raise, index-same, index-other, behind-rises}
use Rattle.cg_disk_records.specs.RunMarkLaws.{run-head, run-rest, ascend-less}
use Rattle.cg_disk_records.specs.HeldLaws.{are_of, created-behind}
use Rattle.cg_disk_records.specs.HoldsMarkLaws.{rising-red}
use Rattle.cg_disk_records.specs.HoldsValueLaws.{holds-whiten}
use Rattle.cg_disk_records.specs.Always.{AlwaysSettled}

-- ---- numbers that count up

same-numbers : (ns : List ℕ) → pointwise nat_eq ns ns ≡ true
same-numbers [] = refl
same-numbers (n ∷ ns) = and_from (nat_eq n n) (pointwise nat_eq ns ns) (eq-eqb n n refl) (same-numbers ns)

counts-list : (last : ℕ) (ns : List ℕ) (low : ℕ) → CountsTo last ns → low + length ns ≡ last → ns ≡ count_up (suc low) (length ns)
counts-list last [] low counts whole = refl
counts-list last (n ∷ ns) low counts whole =
    let at_n : n + length ns ≡ last = counts.1 in
    let first : n ≡ suc low = omega arith in
    ap₂ (λ m rest. m ∷ rest) first (counts-list last ns (suc low) counts.2 (omega arith))

counts-enough : (last : ℕ) (ns : List ℕ) → CountsTo last ns → length ns ≤ last
counts-enough last [] counts = omega arith
counts-enough last (n ∷ ns) counts =
    let one : 1 ≤ n = counts.0 in
    let at_n : n + length ns ≡ last = counts.1 in
    omega arith

counted : (last : ℕ) (ns : List ℕ) → CountsTo last ns → count_to last ns ≡ true
counted last ns counts =
    let enough = counts-enough last ns counts in
    let low = last - length ns in
    let many : last - low ≡ length ns = omega arith in
    let list : ns ≡ above_up_to low last = counts-list last ns low counts (omega arith) ∙ ap (count_up (suc low)) (sym many) in
    ap (pointwise nat_eq ns) (sym list) ∙ same-numbers ns

-- ---- a run, of one creator

run-indexes : (actions : List Action) (cut : List ActionId) (p : ℕ) → Rising 0 cut → run_on cut (names_of actions) ≡ true →
    indexes_of actions p ≡ above_up_to (index_in cut p) (index_in (cut_behind cut (names_of actions)) p)
run-indexes [] cut p rising run = ap (count_up (suc (index_in cut p))) (let none : 0 ≡ index_in cut p - index_in cut p = omega arith in none)
run-indexes (a ∷ actions) cut p rising run =
    let next : a.id.index ≡ suc (index_in cut a.id.creator) = run-head cut a.id (names_of actions) run in
    let last = index_in (cut_behind (raise cut a.id) (names_of actions)) p in
    let rest : indexes_of actions p ≡ above_up_to (index_in (raise cut a.id) p) last =
    run-indexes actions (raise cut a.id) p (rising-raise cut a.id rising) (run-rest cut a.id (names_of actions) run) in
    elim (cases_eq a.id.creator p) [
      | inl same ↦
          let at_p : index_in cut a.id.creator ≡ index_in cut p = ap (index_in cut) same in
          let top : index_in (raise cut a.id) p ≡ max (index_in cut p) a.id.index = index-same cut a.id rising p same in
          let here : index_in (raise cut a.id) p ≡ suc (index_in cut p) = omega arith in
          let more : index_in (raise cut a.id) p ≤ last = behind-rises (raise cut a.id) (names_of actions) p (rising-raise cut a.id rising) in
          let many : last - index_in cut p ≡ suc (last - suc (index_in cut p)) = omega arith in
          let first : a.id.index ≡ suc (index_in cut p) = omega arith in
          rw (eq-eqb a.id.creator p same)
          (ap₂ (λ m ns. m ∷ ns) first (rest ∙ ap (λ low. above_up_to low last) here) ∙ sym (ap (count_up (suc (index_in cut p))) many))
      | inr apart ↦
          rw (ne_eqb a.id.creator p apart) (rest ∙ ap (λ low. above_up_to low last) (index-other cut a.id rising p apart))
    ]

pub mine-indexes : (me : ℕ) (own : List Action) → are_of me own ≡ true → map (λ (a : Action). a.id.index) own ≡ indexes_of own me
mine-indexes me [] mine = refl
mine-indexes me (a ∷ own) mine =
    let parts = and_parts (a.id.creator == me) (are_of me own) mine in
    rw parts.0 (ap (λ ns. a.id.index ∷ ns) (mine-indexes me own parts.1))

-- ---- the other parts

all-true : {X : Type 0} (test : X → Bool) → ((x : X) → test x ≡ true) → (xs : List X) → list_all test xs ≡ true
all-true test each [] = refl
all-true test each (x ∷ xs) = and_from (test x) (list_all test xs) (each x) (all-true test each xs)

all-present : (count : ℕ) (left : List ℕ) (servers : List Server) → ((p : ℕ) → is_among servers p ≡ true → has left p ≡ false) → NoLineAbove count servers →
    list_all (is_present count left) servers ≡ true
all-present count left [] apart lines = refl
all-present count left (s ∷ servers) apart lines =
    and_from (is_present count left s) (list_all (is_present count left) servers)
    (and_from (nat_le s.line count) (not (has left s.id)) (le-leb s.line count lines.0) (ap not (apart s.id (or_left (s.id == s.id) (is_among servers s.id) (eq-eqb s.id s.id refl)))))
    (all-present count left servers (λ p among. apart p (or_right (s.id == p) (is_among servers p) among)) lines.1)

by-name : (reds : List Action) → ascend (names_of reds) ≡ true → is_by_name reds ≡ true
by-name [] up = refl
by-name (a ∷ []) up = refl
by-name (a ∷ b ∷ rest) up =
    and_from (id_before a.id b.id) (is_by_name (b ∷ rest)) (and_parts (id_before a.id b.id) (ascend (names_of (b ∷ rest))) up).0
    (by-name (b ∷ rest) (ascend-less a.id (names_of (b ∷ rest)) up))

pub agrees-stored : (h : Held) → Holds h → Agrees (stored_of h)
agrees-stored h is =
    let q = h.queue in
    let own : map (λ (a : Action). a.id.index) h.own ≡ above_up_to (index_in q.red_cut h.id) (created h) =
    mine-indexes h.id h.own is.mine ∙ run-indexes h.own q.red_cut h.id (rising-red h is) is.own
    ∙ ap (above_up_to (index_in q.red_cut h.id)) (created-behind q.red_cut h.id h.own (rising-red h is) is.own is.mine) in
    record {
      members = all-present (green_count q) h.members.left h.members.servers is.members.apart is.members.lines;
      count = is.count;
      each = all-true (counts_up q) (λ p. and_from (count_to (index_in q.green_cut p) (indexes_of q.greens p))
          (pointwise nat_eq (indexes_of q.reds p) (above_up_to (index_in q.green_cut p) (index_in q.red_cut p)))
          (counted (index_in q.green_cut p) (indexes_of q.greens p) (is.greens p))
          (ap (pointwise nat_eq (indexes_of q.reds p))
          (sym (run-indexes q.reds q.green_cut p is.rising is.reds ∙ ap (λ c. above_up_to (index_in q.green_cut p) (index_in c p)) (sym is.red_cut)))
          ∙ same-numbers (indexes_of q.reds p))) every_replica;
      red_cut = is.red_cut;
      by_name = by-name q.reds is.by_name;
      yellow = is.yellow;
      own = and_from (are_of h.id h.own) (pointwise nat_eq (map (λ (a : Action). a.id.index) h.own) (above_up_to (index_in q.red_cut h.id) (created h))) is.mine
          (ap (pointwise nat_eq (map (λ (a : Action). a.id.index) h.own)) (sym own) ∙ same-numbers (map (λ (a : Action). a.id.index) h.own));
      buffered = refl;
      owed = refl;
    }

pub always-settled : AlwaysSettled
always-settled h is = agrees-stored (whiten h) (holds-whiten h is)
