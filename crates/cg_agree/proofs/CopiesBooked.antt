-- What a joiner is to begin with was made: it is a front of what some replica has green.
use Rattle.std.proofs.Common.{◌⊎◌, ◌≡◌, ℕ, zero, suc, ◌≤◌, max, true, false, ◌||◌, List, [], ◌∷◌, map, fold, length, Option, Some, None, IfSome, refl, sym, ap, ◌∙◌, subst, arith, inl, inr, option_map, is_some}
use Rattle.std.specs.Prelude.{◌==◌}
use Rattle.std.specs.Option.{option_map_or}
use Rattle.std.proofs.lemmas.Bool.{cases_lt, cond_both, eq-eqb, or_right}
use Rattle.cg_base.specs.Lists.{greatest, Each}
use Rattle.cg_base.specs.Sets.{has}
use Rattle.cg_base.specs.Cuts.{index_in}
use Rattle.cg_action.specs.declared.action.Action.{Action}
use Rattle.cg_client.specs.Replica.{Held, Replica}
use Rattle.cg_model.specs.World.{Node, TransferState, node_of, replica_of, has_begun}
use Rattle.cg_model.specs.Chronicle.{Past, Attempt, Chronicle}
use Rattle.cg_model.specs.Fronts.{Front}
use Rattle.cg_model.specs.Looks.{greens_of, stood_of, past_of, on_disk, disk_held, snapshot_of, copied_for, is_in, top_of, attempt_of, left_count}
use Rattle.cg_model.specs.Levels.{line_at, count_in, reached_at}
use Rattle.cg_model.specs.FactsNet.{Hosted}
use Rattle.cg_model.specs.FactsReplica.{DiskBehind, MadeOnce}
use Rattle.cg_model.specs.FactsGreens.{OneOrder}
use Rattle.cg_model.specs.Facts.{Invariant}
use Rattle.cg_model.specs.Played.{AtRest}
use Rattle.cg_model.specs.Small.{Small, small_step}
use Rattle.cg_model.specs.Smalls.{may_make}
use Rattle.cg_agree_lemmas.specs.FrontFacts.{Front-of_both}
use Rattle.cg_agree_lemmas.specs.ReachWorld.{opened-at, opened-attempt}
use Rattle.cg_agree_lemmas.specs.BookGrows.{IsNamed, cut_of}
use Rattle.cg_agree_lemmas.specs.BookedCores.{JoinersBooked, each-booked, front-each}
use Rattle.cg_agree.proofs.MadeOnceKept.{made_once-kept}

-- ---- the greatest of numbers is one of them

pub record IsReached (f : ℕ → ℕ) (set : List ℕ) (n : ℕ) : Type 0 where
  pub by : ℕ
  pub there : has set by ≡ true
  pub is : f by ≡ n

pub greatest-from : (f : ℕ → ℕ) (set : List ℕ) (m : ℕ) → (fold max m (map f set) ≡ m) ⊎ IsReached f set (fold max m (map f set))
greatest-from f [] m = inl refl
greatest-from f (p ∷ set) m = elim (greatest-from f set (max m (f p))) [
  | inr on ↦ inr (record { by = on.by; there = or_right (p == on.by) (has set on.by) on.there; is = on.is })
  | inl stays ↦ elim (cases_lt m (f p)) [
    | inl less ↦
        let here : f p ≡ max m (f p) = omega arith in
        inr (record { by = p; there = ap (λ b. b || has set p) (eq-eqb p p refl); is = here ∙ sym stays })
    | inr far ↦ (let here : max m (f p) ≡ m = omega arith in inl (stays ∙ here))
  ]
]

-- ---- what a replica has green is a front of the newest level's line

pub greens-on_line : (c : Chronicle) → OneOrder c → DiskBehind c → Hosted c → (q : ℕ) → Front (greens_of c q) (line_at c (top_of c))
greens-on_line c order behind hosted q = at (replica_of c.world q) refl (order.memory q) where
  from_disk : (o : Option Held) → disk_held c.world q ≡ o → IfSome o (λ h. Front (stood_of c q) (line_at c (top_of c)) × (length (stood_of c q) ≤ reached_at c (top_of c))) → greens_of c q ≡ stood_of c q →
      Front (greens_of c q) (line_at c (top_of c))
  from_disk (Some h) e is same = subst (λ xs. Front xs (line_at c (top_of c))) (sym same) is.0
  from_disk None e is same = subst (λ xs. Front xs (line_at c (top_of c))) (sym (nothing (past_of c q) refl)) tt where
    begun : (o : Option Node) → option_map (λ s. on_disk s.life) o ≡ None → is_some o ≡ false
    begun None n = refl
    begun (Some s) n = absurd (let clash : Some (on_disk s.life) ≡ None = n in cc)

    nothing : (o : Option Past) → past_of c q ≡ o → greens_of c q ≡ []
    nothing None n = ap (λ (o : Option Past). option_map_or (λ x. x.greens) o []) n
    nothing (Some x) n = absurd (let clash : true ≡ false = sym (ap is_some n) ∙ hosted.past q ∙ begun (node_of c.world q) e in cc)

  at : (o : Option Replica) → replica_of c.world q ≡ o → IfSome o (λ r. Front (greens_of c q) (line_at c (top_of c)) × (length (greens_of c q) ≤ reached_at c (top_of c))) → Front (greens_of c q) (line_at c (top_of c))
  at None e is = from_disk (disk_held c.world q) refl (order.disk q) (behind.down q e)
  at (Some r) e is = is.0

-- so many greens of that line some replica has
reached-there : (c : Chronicle) → Invariant c → (list : List Action) → Front list (line_at c (top_of c)) → length list ≤ reached_at c (top_of c) → Each (IsNamed c.book) list
reached-there c i [] front within = tt
reached-there c i (x ∷ list) front within = at (top_of c) refl where
  booked : (q : ℕ) → length (x ∷ list) ≤ length (greens_of c q) → Each (IsNamed c.book) (x ∷ list)
  booked q le =
      front-each (IsNamed c.book) (x ∷ list) (greens_of c q) (Front-of_both (x ∷ list) (greens_of c q) (line_at c (top_of c)) front (greens-on_line c i.green.one_order i.replica.disk_behind i.net.hosted q) le)
      (each-booked c (greens_of c q) (i.replica.made_once.in_greens q))

  -- a member has so many, or had as it left
  counted : (a : Attempt) (conf : ℕ) → attempt_of c conf ≡ Some a → (q : ℕ) → count_in c a q ≤ length (greens_of c q)
  counted a conf found q =
      cond_both (is_in c a.conf q) (length (greens_of c q)) (left_count a q) (λ n. n ≤ length (greens_of c q)) (λ y. omega arith)
      (λ n. subst (λ (o : Option Attempt). IfSome o (λ a. left_count a q ≤ length (greens_of c q))) found (i.attempt.installed_index.count conf q))

  at : (top : ℕ) → top_of c ≡ top → Each (IsNamed c.book) (x ∷ list)
  at zero e = absurd (let none : reached_at c (top_of c) ≡ 0 = ap (reached_at c) e in omega arith)
  at (suc level) e =
      let o = opened-at c (top_of c) i.attempt.levels_stand (let some = e in omega arith) (omega arith) in
      let here = opened-attempt c (top_of c) o in
      let f = count_in c o.attempt in
      let reached : reached_at c (top_of c) ≡ greatest (map f o.attempt.installed) = ap (λ (a : Attempt). greatest (map (count_in c a) a.installed)) here in
      elim (greatest-from f o.attempt.installed 0) [
        | inl none ↦ absurd (let few = within in omega arith)
        | inr by ↦ booked by.by (let le = counted o.attempt o.conf o.found by.by in let same = by.is in let few = within in omega arith)
      ]

-- who hasn't begun has made nothing
abbrev pub UnbegunMadeNone : Chronicle → Type 0
UnbegunMadeNone c = (p : ℕ) → has_begun c.world p ≡ false → index_in (cut_of c.book) p ≡ 0

pub joiners-booked : (c : Chronicle) → Invariant c → UnbegunMadeNone c → JoinersBooked c
joiners-booked c i unbegun = record { copied = λ joiner. at joiner (snapshot_of c.world joiner) (i.green.one_order.snapshot joiner); unbegun = unbegun } where
  at : (joiner : ℕ) (o : Option TransferState) → IfSome o (λ s. Front (copied_for c joiner) (line_at c (top_of c)) × (length (copied_for c joiner) ≤ reached_at c (top_of c))) →
      IfSome o (λ s. Each (IsNamed c.book) (copied_for c joiner))
  at joiner None is = tt
  at joiner (Some s) is = reached-there c i (copied_for c joiner) is.0 is.1

-- A name stands for one action behind each small step, and who hasn't begun has made nothing.
pub made_once-in : (c : Chronicle) (s : Small) → Invariant c → UnbegunMadeNone c → may_make c s ≡ true → AtRest c s → MadeOnce (small_step c s) × UnbegunMadeNone (small_step c s)
made_once-in c s i unbegun may rest = let both = made_once-kept c s i (joiners-booked c i unbegun) may rest in (both.0, both.1.unbegun)
