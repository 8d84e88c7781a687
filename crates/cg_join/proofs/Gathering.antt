-- The parts of a snapshot bring what it has, each once.
use Rattle.std.proofs.Common.{◌≡◌, ℕ, true, false, Bool, List, [], ◌∷◌, ◌++◌, map, fold, append-nil, append_assoc, refl, sym, ap, subst, ◌∙◌, if◌then◌else◌}
use Rattle.std.specs.Prelude.{Option, Some, None}
use Rattle.std.proofs.lemmas.Bool.{and_parts}
use Rattle.std.proofs.lemmas.Option.{none-some}
use Rattle.std.proofs.lemmas.Grind.{fold-append}
use Rattle.cg_base.specs.SetLaws.{each-replica}
use Rattle.cg_text.specs.Order.{same_text, text_before}
use Rattle.cg_action.specs.declared.action.Action.{Action}
use Rattle.cg_action.specs.ActionLimits.{IsAction}
use Rattle.cg_action.specs.declared.entry.DbEntry.{DbEntry}
use Rattle.cg_db.specs.Limits.{IsEntry, AreEntries}
use Rattle.cg_db.specs.Map.{put}
use Rattle.cg_db.specs.Ascending.{Ascends}
use Rattle.cg_db.specs.TextOrderLaws.{same-sym, before-trans, before-back, before-apart}
use Rattle.cg_client.specs.Replica.{Held}
use Rattle.cg_disk_records.specs.Agreeing.{counts_up}
use Rattle.cg_store.specs.Leading.{LeadTo}
use Rattle.cg_join.specs.declared.gather.Gathered.{Gathered}
use Rattle.cg_join.specs.declared.piece.SnapshotHead.{SnapshotHead}
use Rattle.cg_join.specs.declared.piece.PieceContent.{PieceContent}
use Rattle.cg_join.specs.declared.piece.PieceContent.TheVariants.{Start, Green, Entry, End}
use Rattle.cg_join.specs.Gathered.{nothing, with_part, IsGathered}
use Rattle.cg_join.specs.Finishing.{IsSnapshotFor}
use Rattle.cg_join.specs.Limits.{IsPart}
use Rattle.cg_join.specs.Snapshot.{head_of, parts_of, joined_from}
use Rattle.cg_join.proofs.PartLists.{Each-push}
use Rattle.cg_client.specs.Joined.{joiner_content, joined_queue}
use Rattle.cg_db.specs.AscendingLaws.{EachBefore}

-- ---- entries that ascend, put one after another

put-last : (db : List DbEntry) (e : DbEntry) → EachBefore e.key db → put db e.key e.value ≡ db ++ e ∷ []
put-last [] e before = refl
put-last (x ∷ db) e before =
    let other : same_text e.key x.key ≡ false = same-sym x.key e.key false (before-apart x.key e.key before.0) in
    let behind : text_before e.key x.key ≡ false = before-back x.key e.key before.0 in
    rw (other, behind, put-last db e before.1) refl

first-before : (x : DbEntry) (had : List DbEntry) (e : DbEntry) (rest : List DbEntry) → Ascends (x ∷ (had ++ e ∷ rest)) → text_before x.key e.key ≡ true
first-before x [] e rest up = up.0
first-before x (y ∷ had) e rest up = before-trans x.key y.key e.key up.0 (first-before y had e rest up.1)

all-before : (had : List DbEntry) (e : DbEntry) (rest : List DbEntry) → Ascends (had ++ e ∷ rest) → EachBefore e.key had
all-before [] e rest up = tt
all-before (x ∷ had) e rest up = (first-before x had e rest up, all-before had e rest up.1)

abbrev put_one : List DbEntry → DbEntry → List DbEntry
put_one db e = put db e.key e.value

all_put : (had db : List DbEntry) → Ascends (had ++ db) → fold put_one had db ≡ had ++ db
all_put had [] up = sym (append-nil had)
all_put had (e ∷ db) up =
    ap (λ d. fold put_one d db) (put-last had e (all-before had e db up))
    ∙ all_put (had ++ e ∷ []) db (subst Ascends (sym (append_assoc had (e ∷ []) db)) up)
    ∙ append_assoc had (e ∷ []) db

-- ---- what the parts bring

greens_brought : (g : Gathered) (greens : List Action) → fold with_part g (map Green greens) ≡ record g { greens = g.greens ++ greens }
greens_brought g [] = ap (λ l. record g { greens = l }) (sym (append-nil g.greens))
greens_brought g (a ∷ greens) = greens_brought (record g { greens = g.greens ++ a ∷ [] }) greens ∙ ap (λ l. record g { greens = l }) (append_assoc g.greens (a ∷ []) greens)

entries_brought : (g : Gathered) (entries : List DbEntry) → fold with_part g (map Entry entries) ≡ record g { db = fold put_one g.db entries }
entries_brought g [] = refl
entries_brought g (e ∷ entries) = entries_brought (record g { db = put g.db e.key e.value }) entries

abbrev brought : Held → Gathered
brought h = record { head = Some (head_of h); greens = h.queue.greens; db = h.db }

pub all_brought : (h : Held) → Ascends h.db → fold with_part nothing (parts_of h) ≡ brought h
all_brought h up =
    let first : Gathered = record { head = Some (head_of h); greens = []; db = [] } in
    let second : Gathered = record { head = Some (head_of h); greens = h.queue.greens; db = [] } in
    fold-append with_part first (map Green h.queue.greens) (map Entry h.db ++ End ∷ [])
    ∙ ap (λ g. fold with_part g (map Entry h.db ++ End ∷ [])) (greens_brought first h.queue.greens)
    ∙ fold-append with_part second (map Entry h.db) (End ∷ [])
    ∙ entries_brought second h.db
    ∙ ap (λ d. record second { db = d }) (all_put [] h.db up)

some_head : SnapshotHead → Option SnapshotHead
some_head x = Some x

same_head : (x y : SnapshotHead) → some_head x ≡ some_head y → x ≡ y
unfolding some_head
same_head x y e = cc

-- what they make of a joiner
pub joined_by : (id : ℕ) (h : Held) (g : Gathered) (head : SnapshotHead) → g ≡ brought h → g.head ≡ Some head → joined_from id head g.greens g.db ≡ joiner_content id h
unfolding some_head
joined_by id h g head is first =
    let same : head ≡ head_of h = same_head head (head_of h) (sym first ∙ ap (λ (x : Gathered). x.head) is) in
    ap (λ x. joined_from id x g.greens g.db) same ∙ ap (λ (x : Gathered). joined_from id (head_of h) x.greens x.db) is

-- the parts of a snapshot bring a head, and greens that lead to its cut
module _ (id : ℕ) (parts : List PieceContent) (from : IsSnapshotFor id parts) (g : Gathered) (is : g ≡ fold with_part nothing parts) where
  all-of-it : g ≡ brought from.source
  all-of-it = is ∙ ap (λ ps. fold with_part nothing ps) from.all ∙ all_brought from.source from.ascends

  pub never-headless : g.head ≡ None → ⊥
  never-headless none = none-some (head_of from.source) (sym none ∙ ap (λ (x : Gathered). x.head) all-of-it)

  pub brought-lead : (head : SnapshotHead) → g.head ≡ Some head → LeadTo head.reached.cut g.greens
  unfolding some_head
  brought-lead head first =
      let same : head ≡ head_of from.source = same_head head (head_of from.source) (sym first ∙ ap (λ (x : Gathered). x.head) all-of-it) in
      let lead : LeadTo from.source.queue.green_cut from.source.queue.greens = λ p one. (and_parts _ _ (each-replica (counts_up (joined_queue from.source.queue)) p from.agrees.each one)).0 in
      subst (λ (x : SnapshotHead). LeadTo x.reached.cut g.greens) (sym same)
      (subst (λ greens. LeadTo from.source.queue.green_cut greens) (sym (ap (λ (x : Gathered). x.greens) all-of-it)) lead)

-- ---- limits

entries_if : (b : Bool) (c d : List DbEntry) → AreEntries c → AreEntries d → AreEntries (if b then c else d)
entries_if true c d kc kd = kc
entries_if false c d kc kd = kd

entries-put : (db : List DbEntry) (e : DbEntry) → AreEntries db → IsEntry e → AreEntries (put db e.key e.value)
entries-put [] e all one = (one, tt)
entries-put (x ∷ db) e all one =
    entries_if (same_text e.key x.key) _ _ (one, all.1) (entries_if (text_before e.key x.key) _ _ (one, all) (all.0, entries-put db e all.1 one))

pub part-within : (g : Gathered) (p : PieceContent) → IsGathered g → IsPart p → IsGathered (with_part g p)
part-within g (Start head) within is = record { head = is; greens = within.greens; db = within.db }
part-within g (Green action) within is = record { head = within.head; greens = Each-push IsAction g.greens action within.greens is; db = within.db }
part-within g (Entry entry) within is = record { head = within.head; greens = within.greens; db = entries-put g.db entry within.db is }
part-within g End within is = within
