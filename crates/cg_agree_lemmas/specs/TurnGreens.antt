-- What is green of a replica behind an event: what was, and behind it the names that its turn noted, where the turn stands.
use Rattle.std.proofs.lemmas.List.{length-drop, drop-append-le}
use Rattle.std.proofs.Math.Seq.{drop-append_seam}
use Rattle.std.proofs.Common.{◌≡◌, ◌++◌, ◌∷◌, ◌≤◌, ◌∙◌, ◌⊎◌, ◌-◌, IfSome, List, Option, Some, ap, arith, drop, inl, inr, length, refl, subst, sym, ℕ, []}
use Rattle.cg_action.specs.declared.action.Action.{Action}
use Rattle.cg_agree_lemmas.specs.FrontFacts.{Front-refl, Front-trans, same_from_Front, split_by_Front}
use Rattle.cg_agree_lemmas.specs.GreensTold.{IsNoted}
use Rattle.cg_agree_lemmas.specs.HeldCommit.{white-oneself}
use Rattle.cg_agree_lemmas.specs.HeldMarks.{IsOneself}
use Rattle.cg_model.specs.Chronicle.{Chronicle}
use Rattle.cg_model.specs.Facts.{Invariant}
use Rattle.cg_model.specs.FactsReplica.{IsCore, IsMadeOf}
use Rattle.cg_model.specs.Fronts.{Front}
use Rattle.cg_model.specs.Looks.{disk_held, greens_of, stood_of}
use Rattle.cg_model.specs.Noting.{played}
use Rattle.cg_model.specs.Played.{KeptBySmalls, MayBeMade}
use Rattle.cg_model.specs.Small.{Small, small_step}
use Rattle.cg_model.specs.World.{replica_of}
use Rattle.cg_base.specs.declared.action_id.ActionId.{ActionId}
use Rattle.cg_base.specs.declared.weighted.Weighted.{Weighted}
use Rattle.cg_client.specs.Replica.{Held, Replica}
use Rattle.cg_client.specs.Turn.{Turn}
use Rattle.cg_queue.specs.Queue.{green_count, names_of}
use Rattle.cg_disk_records.specs.Stored.{stored_of, whiten}
use Rattle.cg_queue.specs.NameLaws.{names-append}

-- ---- lists

pub same-behind : (xs ys zs : List ActionId) → xs ++ ys ≡ xs ++ zs → ys ≡ zs
same-behind xs ys zs e = sym (drop-append_seam xs ys) ∙ ap (drop (length xs)) e ∙ drop-append_seam xs zs

-- what is kept of lists of which the one goes on from the other goes on so too
noted-behind : (old now : List Action) (white : ℕ) (green : List ActionId) → white ≤ length old → Front old now → names_of (drop white now) ≡ names_of (drop white old) ++ green →
    names_of now ≡ names_of old ++ green
noted-behind old now white green low front noted =
    let rest = drop (length old) now in
    let whole : now ≡ old ++ rest = split_by_Front old now front in
    let kept : names_of (drop white now) ≡ names_of (drop white old) ++ names_of rest =
    ap (λ xs. names_of (drop white xs)) whole ∙ ap names_of (drop-append-le white old rest low) ∙ names-append (drop white old) rest in
    let same : names_of rest ≡ green = same-behind (names_of (drop white old)) (names_of rest) green (sym kept ∙ noted) in
    ap names_of whole ∙ names-append old rest ∙ ap (λ ids. names_of old ++ ids) same

-- ---- counts

pub made-count : (start : List Weighted) (h : Held) (all : List Action) → IsMadeOf start h all → green_count h.queue ≡ length all
made-count start h all is =
    let low = is.white in
    let kept : length h.queue.greens ≡ length all - h.queue.white = ap length is.kept ∙ length-drop h.queue.white all in
    omega arith

pub memory-count : (c : Chronicle) → Invariant c → (p : ℕ) (r : Replica) → replica_of c.world p ≡ Some r → green_count r.held.queue ≡ length (greens_of c p)
memory-count c i p r e = made-count c.start r.held (greens_of c p) (subst (λ (o : Option Replica). IfSome o (λ r. IsCore c r.held (greens_of c p))) e (i.replica.cores.memory p)).made_of

pub disk-count : (c : Chronicle) → Invariant c → (p : ℕ) (h : Held) → disk_held c.world p ≡ Some h → green_count h.queue ≡ length (stood_of c p)
disk-count c i p h e = made-count c.start h (stood_of c p) (subst (λ (o : Option Held). IfSome o (λ h. IsCore c h (stood_of c p))) e (i.replica.cores.disk p)).made_of

-- ---- small steps

pub greens-along : KeptBySmalls → (smalls : List Small) (c : Chronicle) → Invariant c → MayBeMade c smalls → (p : ℕ) → Front (greens_of c p) (greens_of (played c smalls) p)
greens-along kept [] c i may p = Front-refl (greens_of c p)
greens-along kept (s ∷ smalls) c i may p =
    let next = kept c s i may.0 may.1 in
    Front-trans (greens_of c p) (greens_of (small_step c s) p) (greens_of (played c (s ∷ smalls)) p) (next.1.lists_grow.greens p) (greens-along kept smalls (small_step c s) next.0 may.2 p)

pub facts-along : KeptBySmalls → (smalls : List Small) (c : Chronicle) → Invariant c → MayBeMade c smalls → Invariant (played c smalls)
facts-along kept [] c i may = i
facts-along kept (s ∷ smalls) c i may = facts-along kept smalls (small_step c s) (kept c s i may.0 may.1).0 may.2

pub made-first : (xs ys : List Small) (c : Chronicle) → MayBeMade c (xs ++ ys) → MayBeMade c xs × MayBeMade (played c xs) ys
made-first [] ys c may = (tt, may)
made-first (s ∷ xs) ys c may = (let rest = made-first xs ys (small_step c s) may.2 in ((may.0, may.1, rest.0), rest.1))

pub played-both : (xs ys : List Small) (c : Chronicle) → played c (xs ++ ys) ≡ played (played c xs) ys
played-both [] ys c = refl
played-both (s ∷ xs) ys c = played-both xs ys (small_step c s)

-- a chronicle between the two in which the replica is as its turn leaves it
pub record IsBetween (c d : Chronicle) (p : ℕ) (t : Turn) : Type 0 where
  pub chronicle : Chronicle
  pub facts : Invariant chronicle
  pub runs : replica_of chronicle.world p ≡ Some t.replica
  pub first : Front (greens_of c p) (greens_of chronicle p)
  pub last : Front (greens_of chronicle p) (greens_of d p)

-- what stands on the disk behind the event is what was green, at rest
module _ (c d : Chronicle) (i : Invariant c) (j : Invariant d) (p : ℕ) (grow : Front (greens_of c p) (greens_of d p)) (rest : greens_of c p ≡ stood_of c p) (rest_on : greens_of d p ≡ stood_of d p) where
  -- whose disk counts no more greens has none more
  pub greens-stay : (h k : Held) → disk_held c.world p ≡ Some h → disk_held d.world p ≡ Some k → green_count k.queue ≡ green_count h.queue → greens_of d p ≡ greens_of c p
  greens-stay h k e f same =
      let was : green_count h.queue ≡ length (greens_of c p) = disk-count c i p h e ∙ ap length (sym rest) in
      let is : green_count k.queue ≡ length (greens_of d p) = disk-count d j p k f ∙ ap length (sym rest_on) in
      sym (same_from_Front (greens_of c p) (greens_of d p) grow (omega arith))

  module _ (r : Replica) (t : Turn) (here : replica_of c.world p ≡ Some r) (noted : IsNoted r.held t) (between : IsBetween c d p t) where
    oneself : IsOneself between.chronicle.start t.replica.held (greens_of between.chronicle p)
    oneself =
        let core = subst (λ (o : Option Replica). IfSome o (λ r. IsCore between.chronicle r.held (greens_of between.chronicle p))) between.runs (between.facts.replica.cores.memory p) in
        record { made_of = core.made_of; contiguous = core.contiguous; yellow_closed = core.yellow_closed }

    -- where it holds so many behind the event
    greens-noted : length (greens_of d p) ≡ length (greens_of between.chronicle p) → names_of (greens_of d p) ≡ names_of (greens_of c p) ++ t.green
    greens-noted count =
        let middle = greens_of between.chronicle p in
        let core = subst (λ (o : Option Replica). IfSome o (λ r. IsCore c r.held (greens_of c p))) here (i.replica.cores.memory p) in
        let kept : t.replica.held.queue.greens ≡ drop r.held.queue.white middle = oneself.made_of.kept ∙ ap (λ n. drop n middle) noted.white in
        let is : names_of (drop r.held.queue.white middle) ≡ names_of (drop r.held.queue.white (greens_of c p)) ++ t.green =
        sym (ap names_of kept) ∙ noted.greens ∙ ap (λ xs. names_of xs ++ t.green) core.made_of.kept in
        ap names_of (sym (same_from_Front middle (greens_of d p) between.last (omega arith)))
        ∙ noted-behind (greens_of c p) middle r.held.queue.white t.green core.made_of.white between.first is

    pub noted-runs : (x : Replica) → replica_of d.world p ≡ Some x → (x.held ≡ t.replica.held) ⊎ (x.held ≡ whiten t.replica.held) → names_of (greens_of d p) ≡ names_of (greens_of c p) ++ t.green
    noted-runs x e is = greens-noted (sym (memory-count d j p x e) ∙ elim is [
      | inl same ↦ ap (λ (h : Held). green_count h.queue) same ∙ made-count between.chronicle.start t.replica.held (greens_of between.chronicle p) oneself.made_of
      | inr white ↦ ap (λ (h : Held). green_count h.queue) white
          ∙ made-count between.chronicle.start (whiten t.replica.held) (greens_of between.chronicle p) (white-oneself between.chronicle.start t.replica.held (greens_of between.chronicle p) oneself).made_of
    ])

    pub noted-stands : (h : Held) → disk_held d.world p ≡ Some h → h ≡ stored_of (whiten t.replica.held) → names_of (greens_of d p) ≡ names_of (greens_of c p) ++ t.green
    noted-stands h e is = greens-noted (ap length rest_on ∙ sym (disk-count d j p h e) ∙ ap (λ (h : Held). green_count h.queue) is
        ∙ made-count between.chronicle.start (whiten t.replica.held) (greens_of between.chronicle p) (white-oneself between.chronicle.start t.replica.held (greens_of between.chronicle p) oneself).made_of)
