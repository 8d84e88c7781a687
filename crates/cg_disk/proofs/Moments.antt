-- How the moments that a disk in memory answers for go on from call to call.
use Rattle.std.proofs.Common.{◌≡◌, inl, inr, ⊎_elim, ◌⊎◌, ℕ, suc, ◌≤◌, ◌<◌, List, [], ◌∷◌, sym, subst, arith}
use Rattle.cg_disk.specs.Sides.{Image}
use Rattle.cg_disk.specs.State.{SideState, Leaves}
use Rattle.cg_disk.specs.Undo.{undone, side_after}
use Rattle.cg_disk.specs.Past.{SyncPoint, HadLeft, MayHaveLeft, last_call, settled_a, settled_b}
use Rattle.cg_disk.specs.declared.written.Written.{Written}

-- a crash before a sync point was before the last of them
pub had_before : (a b : List ℕ) (points : List SyncPoint) (t : ℕ) (c : Image) → HadLeft a b points t c → t < last_call points
had_before a b [] t c had = absurd had
had_before a b (m ∷ points) t c had = omega (arith, had.0)

module _ (a b : SideState) (calls begun : ℕ) (points : List SyncPoint) (begun_before : begun ≤ calls) (points_before : last_call points ≤ calls) where
  -- one call more that settles nothing
  module _ (a' b' : SideState) (old_a : a'.old ≡ a.old) (old_b : b'.old ≡ b.old) where
    earlier : (t : ℕ) (c : Image) → t ≤ calls → (t < begun) ⊎ HadLeft a'.old b'.old points t c → (t < calls) × ((t < begun) ⊎ HadLeft a.old b.old points t c)
    earlier t c le (inl forgotten) = (omega arith, inl forgotten)
    earlier t c le (inr had) =
        let had' : HadLeft a.old b.old points t c = subst (λ (x : List ℕ). HadLeft x b.old points t c) old_a (subst (λ (y : List ℕ). HadLeft a'.old y points t c) old_b had) in
        (omega (arith, had_before a.old b.old points t c had'), inr had')

    pub more_nothing_else : (t : ℕ) (c : Image) → t ≤ calls → MayHaveLeft a' b' (suc calls) begun points t c → MayHaveLeft a b calls begun points t c ⊎ Leaves a' b' c
    more_nothing_else t c le (inl now) = inr now
    more_nothing_else t c le (inr past) = inl (inr (earlier t c le past.1))

    pub more_keeps : ((c : Image) → Leaves a b c → Leaves a' b' c) → (t : ℕ) (c : Image) → t ≤ calls → MayHaveLeft a b calls begun points t c → MayHaveLeft a' b' (suc calls) begun points t c
    more_keeps grow t c le (inl now) = inl (grow c now)
    more_keeps grow t c le (inr past) = inr (omega arith, ⊎_elim (λ forgotten. inl forgotten) (λ had. inr (subst (λ (x : List ℕ). HadLeft x b'.old points t c) (sym old_a) (subst (λ (y : List ℕ). HadLeft a.old y points t c) (sym old_b) had))) past.1)

-- one call more that settles these writes
module _ (seen_a seen_b : List ℕ) (writes_a writes_b : List Written) (calls begun : ℕ) (m : SyncPoint) (points : List SyncPoint) (begun_before : begun ≤ calls) (points_before : last_call points ≤ calls) (call : m.call ≡ suc calls) (of_a : settled_a m ≡ writes_a) (of_b : settled_b m ≡ writes_b) where
  with_point : (t : ℕ) (c : Image) → HadLeft seen_a seen_b (m ∷ points) t c → Leaves (side_after seen_a writes_a) (side_after seen_b writes_b) c ⊎ HadLeft (undone seen_a writes_a) (undone seen_b writes_b) points t c
  with_point t c had = subst (λ (x : List Written). Leaves (side_after seen_a x) (side_after seen_b writes_b) c ⊎ HadLeft (undone seen_a x) (undone seen_b writes_b) points t c) of_a (subst (λ (y : List Written). Leaves (side_after seen_a (settled_a m)) (side_after seen_b y) c ⊎ HadLeft (undone seen_a (settled_a m)) (undone seen_b y) points t c) of_b had.1)

  at_point : (t : ℕ) (c : Image) → t ≤ calls → Leaves (side_after seen_a writes_a) (side_after seen_b writes_b) c ⊎ HadLeft (undone seen_a writes_a) (undone seen_b writes_b) points t c → HadLeft seen_a seen_b (m ∷ points) t c
  at_point t c le was = (omega (arith, call), subst (λ (x : List Written). Leaves (side_after seen_a x) (side_after seen_b (settled_b m)) c ⊎ HadLeft (undone seen_a x) (undone seen_b (settled_b m)) points t c) (sym of_a) (subst (λ (y : List Written). Leaves (side_after seen_a writes_a) (side_after seen_b y) c ⊎ HadLeft (undone seen_a writes_a) (undone seen_b y) points t c) (sym of_b) was))

  pub settled_nothing_else : (t : ℕ) (c : Image) → t ≤ calls → MayHaveLeft (side_after seen_a []) (side_after seen_b []) (suc calls) begun (m ∷ points) t c → MayHaveLeft (side_after seen_a writes_a) (side_after seen_b writes_b) calls begun points t c ⊎ Leaves (side_after seen_a []) (side_after seen_b []) c
  settled_nothing_else t c le (inl now) = inr now
  settled_nothing_else t c le (inr past) = inl (⊎_elim (λ forgotten. inr (omega arith, inl forgotten)) (λ had. ⊎_elim (λ was. inl was) (λ before. inr (omega (arith, had_before _ _ points t c before), inr before)) (with_point t c had)) past.1)

  pub settled_keeps : (t : ℕ) (c : Image) → t ≤ calls → MayHaveLeft (side_after seen_a writes_a) (side_after seen_b writes_b) calls begun points t c → MayHaveLeft (side_after seen_a []) (side_after seen_b []) (suc calls) begun (m ∷ points) t c
  settled_keeps t c le (inl now) = inr (omega arith, inr (at_point t c le (inl now)))
  settled_keeps t c le (inr past) = inr (omega arith, ⊎_elim (λ forgotten. inl forgotten) (λ had. inr (at_point t c le (inr had))) past.1)
