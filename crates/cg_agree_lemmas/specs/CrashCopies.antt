-- What a crash leaves of the snapshots: those of other givers, each with its copy.
use Rattle.std.proofs.Common.{◌⊎◌, ◌≡◌, ℕ, ◌≤◌, Bool, false, not, List, [], ◌∷◌, length, map, find, filter, Option, Some, None, refl, sym, ap, ◌∙◌, inl, inr, arith}
use Rattle.std.specs.Prelude.{◌==◌}
use Rattle.std.specs.Option.{option_map_or}
use Rattle.std.proofs.lemmas.Bool.{cases_Bool}
use Rattle.cg_disk_records.specs.Crash.{Disk}
use Rattle.cg_client.specs.Replica.{Replica}
use Rattle.cg_model.specs.World.{NodeState, Up, Down, Node, TransferState, node_of}
use Rattle.cg_model.specs.Chronicle.{Copy, Chronicle}
use Rattle.cg_model.specs.Looks.{snapshot_of, snapshots_for, copies_for, copied_for}
use Rattle.cg_model.specs.FactsNet.{Hosted}
use Rattle.cg_model.specs.Small.{Crashes, crash_as, small_step}

module _ {X : Type 0} where
  abbrev first : List X → Option X
  first [] = None
  first (x ∷ xs) = Some x

  found-first : (t : X → Bool) (xs : List X) → find t xs ≡ first (filter t xs)
  found-first t [] = refl
  found-first t (x ∷ xs) = elim (cases_Bool (t x)) [
    | inl holds ↦ rw holds refl
    | inr fails ↦ rw fails (found-first t xs)
  ]

  filters-swap : (t u : X → Bool) (xs : List X) → filter t (filter u xs) ≡ filter u (filter t xs)
  filters-swap t u [] = refl
  filters-swap t u (x ∷ xs) = elim (cases_Bool (t x)) [
    | inl holds ↦ elim (cases_Bool (u x)) [
      | inl also ↦ rw (also, holds, also) (ap (λ zs. x ∷ zs) (filters-swap t u xs))
      | inr fails ↦ rw (fails, holds, fails) (filters-swap t u xs)
    ]
    | inr other ↦ elim (cases_Bool (u x)) [
      | inl also ↦ rw (also, other) (filters-swap t u xs)
      | inr fails ↦ rw (fails, other) (filters-swap t u xs)
    ]
  ]

-- no snapshot is left, or the same with its copy
abbrev IsLeft : List TransferState → List Copy → ℕ → Type 0
IsLeft snaps copies p =
    (first (filter (λ s. not (s.giver == p)) snaps) ≡ None)
    ⊎ ((first (filter (λ s. not (s.giver == p)) snaps) ≡ first snaps) × (first (filter (λ x. not (x.giver == p)) copies) ≡ first copies))

left-one : (p : ℕ) (s : TransferState) (x : Copy) → x.giver ≡ s.giver → IsLeft (s ∷ []) (x ∷ []) p
left-one p s x same = elim (cases_Bool (s.giver == p)) [
  | inl gone ↦ inl (rw gone refl)
  | inr stays ↦ inr ((rw stays refl), (let other : (x.giver == p) ≡ false = ap (λ n. n == p) same ∙ stays in rw other refl))
]

left-of : (p : ℕ) (snaps : List TransferState) (copies : List Copy) → map (λ x. x.giver) copies ≡ map (λ s. s.giver) snaps → length snaps ≤ 1 → IsLeft snaps copies p
left-of p [] copies same few = inl refl
left-of p (s ∷ []) [] same few = absurd (let clash : [] ≡ s.giver ∷ [] = same in cc)
left-of p (s ∷ []) (x ∷ []) same few = left-one p s x (ap head same) where
  head : List ℕ → ℕ
  head [] = 0
  head (n ∷ ns) = n
left-of p (s ∷ []) (x ∷ y ∷ copies) same few = absurd (let clash : y.giver ∷ map (λ (x : Copy). x.giver) copies ≡ [] = ap tail same in cc) where
  tail : List ℕ → List ℕ
  tail [] = []
  tail (n ∷ ns) = ns
left-of p (s ∷ t ∷ snaps) copies same few = absurd (omega arith)

abbrev AreLeft : Chronicle → ℕ → Chronicle → Type 0
AreLeft c joiner d = (snapshot_of d.world joiner ≡ None) ⊎ ((snapshot_of d.world joiner ≡ snapshot_of c.world joiner) × (copied_for d joiner ≡ copied_for c joiner))

pub crash-left : (c : Chronicle) (p joiner : ℕ) → Hosted c → (let d = small_step c (Crashes p) in (snapshot_of d.world joiner ≡ None)
    ⊎ ((snapshot_of d.world joiner ≡ snapshot_of c.world joiner) × (copied_for d joiner ≡ copied_for c joiner)))
unfolding small_step
crash-left c p joiner hosted = at (node_of c.world p) where
  snaps : find (λ (s : TransferState). s.joiner == joiner) (filter (λ s. not (s.giver == p)) c.world.snapshots) ≡ first (filter (λ s. not (s.giver == p)) (snapshots_for c.world joiner))
  snaps = found-first (λ (s : TransferState). s.joiner == joiner) (filter (λ s. not (s.giver == p)) c.world.snapshots) ∙ ap first (filters-swap (λ (s : TransferState). s.joiner == joiner) (λ s. not (s.giver == p)) c.world.snapshots)

  copies : find (λ (x : Copy). x.joiner == joiner) (filter (λ x. not (x.giver == p)) c.copies) ≡ first (filter (λ x. not (x.giver == p)) (copies_for c joiner))
  copies = found-first (λ (x : Copy). x.joiner == joiner) (filter (λ x. not (x.giver == p)) c.copies) ∙ ap first (filters-swap (λ (x : Copy). x.joiner == joiner) (λ x. not (x.giver == p)) c.copies)

  done : (r : Replica) (disk : Disk) → AreLeft c joiner (crash_as c p (Up r disk))
  done r disk = elim (left-of p (snapshots_for c.world joiner) (copies_for c joiner) (hosted.copied joiner) (hosted.once joiner)) [
    | inl none ↦ inl (snaps ∙ none)
    | inr same ↦ inr (
      (snaps ∙ same.0 ∙ sym (found-first (λ (s : TransferState). s.joiner == joiner) c.world.snapshots)),
      ap (λ (o : Option Copy). option_map_or (λ x. x.greens) o []) (copies ∙ same.1 ∙ sym (found-first (λ (x : Copy). x.joiner == joiner) c.copies)),
    )
  ]

  life : (life : NodeState) → AreLeft c joiner (crash_as c p life)
  life (Up r disk) = done r disk
  life (Down disk green) = inr (refl, refl)

  at : (o : Option Node) → AreLeft c joiner (option_map_or (λ s. crash_as c p s.life) o c)
  at None = inr (refl, refl)
  at (Some s) = life s.life
