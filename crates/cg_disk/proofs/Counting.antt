-- What a call of a disk in memory shows of it.
use Rattle.std.proofs.Common.{◌≡◌, inl, inr, ⊎_elim, ℕ, suc, ◌≤◌, ◌<◌, List, [], ◌∷◌, drop, reverse, Some, None, Result, Ok, Err, refl, sym, ◌∙◌, ap, subst, arith}
use Rattle.cg_disk.specs.Sides.{Image}
use Rattle.cg_disk.specs.State.{SideState, DiskState, Fails, Leaves, LeavesSide, blow_at, after_blow, synced_side, shown, unsynced_from}
use Rattle.cg_disk.specs.Writes.{Only}
use Rattle.cg_disk.specs.Undo.{side_after}
use Rattle.cg_disk.specs.Armed.{strike_of}
use Rattle.cg_disk.specs.Past.{SyncPoint, MayHaveLeft, last_call}
use Rattle.cg_disk.specs.Model.{writes_of, side_of, points_of, state_of, view_of, SameSides, Settles, Counts}
use Rattle.cg_disk.specs.Calls as calls
use Rattle.std.proofs.lemmas.Bool.Decides.{nat_tests}
use Rattle.cg_disk.specs.declared.armed.Armed.{Armed}
use Rattle.cg_disk.specs.declared.armed.Armed.TheVariants.{Nothing, Failure, Stop}
use Rattle.cg_disk.specs.declared.disk.DiskFault.{DiskFault}
use Rattle.cg_disk.specs.declared.disk.DiskFault.TheVariants.{Failed, NoMemory}
use Rattle.cg_disk.specs.declared.model_side.ModelSide.{ModelSide}
use Rattle.cg_disk.specs.declared.model_disk.ModelDisk.{ModelDisk}
use Rattle.cg_disk.proofs.Images.{filled_leaves, seen_leaves, only_seen}
use Rattle.cg_disk.proofs.Moments.{more_nothing_else, more_keeps, settled_nothing_else, settled_keeps}

-- what it reads and what each fill leaves are images
pub has_images : (m : ModelDisk) → calls.HasImages (view_of m)
has_images m = record {
  reads = record { on_a = seen_leaves (side_of m.a) m.a.grown; on_b = seen_leaves (side_of m.b) m.b.grown };
  fills = λ fill. record { on_a = filled_leaves (side_of m.a) fill m.a.grown; on_b = filled_leaves (side_of m.b) (drop (unsynced_from (side_of m.a) 0 m.a.bytes.items) fill) m.b.grown };
}

pub counted_before : (m : ModelDisk) → (m.begun ≤ m.calls) × (last_call (points_of m) ≤ m.calls)
counted_before m = (m.counted.1, m.counted.2)

-- the same moments under other names
moved : (a a' b b' : SideState) (n n' k k' : ℕ) (points points' : List SyncPoint) (t : ℕ) (c : Image) → a ≡ a' → b ≡ b' → n ≡ n' → k ≡ k' → points ≡ points' → MayHaveLeft a b n k points t c → MayHaveLeft a' b' n' k' points' t c
moved a a' b b' n n' k k' points points' t c ea eb en ek em left =
    subst (λ x. MayHaveLeft x b' n' k' points' t c) ea
    (subst (λ x. MayHaveLeft a x n' k' points' t c) eb
    (subst (λ x. MayHaveLeft a b x k' points' t c) en
    (subst (λ x. MayHaveLeft a b n x points' t c) ek
    (subst (λ x. MayHaveLeft a b n k x t c) em left))))

-- sides with the same bytes and writes are the same
pub same_side : (s t : ModelSide) → t.bytes.items ≡ s.bytes.items → t.unsynced.items ≡ s.unsynced.items → side_of t ≡ side_of s
same_side s t bytes writes = λ i. side_after (bytes i) (reverse (writes i))

-- a call more that settles nothing, on sides that may have grown
module _ (m n : ModelDisk) (called : n.calls ≡ suc m.calls) (begun : n.begun ≡ m.begun) (past : n.past ≡ m.past) where
  pub grown_elapses : (side_of n.a).old ≡ (side_of m.a).old → (side_of n.b).old ≡ (side_of m.b).old → ((c : Image) → Leaves (side_of m.a) (side_of m.b) c → Leaves (side_of n.a) (side_of n.b) c) → calls.Elapses (view_of m) (view_of n)
  grown_elapses old_a old_b grow =
      let before = counted_before m in
      record {
        nothing_else = λ t c le left.
            more_nothing_else (side_of m.a) (side_of m.b) m.calls m.begun (points_of m) before.0 before.1 (side_of n.a) (side_of n.b) old_a old_b t c le
            (moved (side_of n.a) (side_of n.a) (side_of n.b) (side_of n.b) n.calls (suc m.calls) n.begun m.begun (points_of n) (points_of m) t c refl refl called begun past left);
        keeps = λ t c le left.
            moved (side_of n.a) (side_of n.a) (side_of n.b) (side_of n.b) (suc m.calls) n.calls m.begun n.begun (points_of m) (points_of n) t c refl refl (sym called) (sym begun) (sym past)
            (more_keeps (side_of m.a) (side_of m.b) m.calls m.begun (points_of m) before.0 before.1 (side_of n.a) (side_of n.b) old_a old_b grow t c le left);
      }

-- sides that stay
pub same_sides : (m n : ModelDisk) → SameSides m n → (side_of n.a ≡ side_of m.a) × (side_of n.b ≡ side_of m.b)
same_sides m n same = (same_side m.a n.a same.bytes_a same.writes_a, same_side m.b n.b same.bytes_b same.writes_b)

pub same_looks : (m n : ModelDisk) → SameSides m n → n.calls ≡ suc m.calls → calls.Looks (view_of m) (view_of n)
same_looks m n same called =
    let sides = same_sides m n same in
    let a = sides.0 in
    let b = sides.1 in
    record {
      reads = λ i. record { a = (a i).seen; b = (b i).seen };
      images = λ c left. subst (λ x. Leaves x (side_of m.b) c) a (subst (λ y. Leaves (side_of n.a) y c) b left);
      elapses = grown_elapses m n called same.begun same.past (λ i. (a i).old) (λ i. (b i).old) (λ c left. subst (λ x. Leaves x (side_of n.b) c) (sym a) (subst (λ y. Leaves (side_of m.a) y c) (sym b) left));
    }

-- what was settled
module _ (m n : ModelDisk) (settles : Settles m n) where
  clean : (s t : ModelSide) → t.bytes.items ≡ s.bytes.items → t.unsynced.items ≡ [] → side_of t ≡ synced_side (side_of s)
  clean s t bytes writes = λ i. side_after (bytes i) (reverse (writes i))

  pub clean_a : side_of n.a ≡ synced_side (side_of m.a)
  clean_a = clean m.a n.a settles.bytes_a settles.writes_a

  pub clean_b : side_of n.b ≡ synced_side (side_of m.b)
  clean_b = clean m.b n.b settles.bytes_b settles.writes_b

  only_side : (s t : ModelSide) → side_of t ≡ synced_side (side_of s) → (c : List ℕ) → LeavesSide (side_of t) c → c ≡ s.bytes.items
  only_side s t is c left = only_seen (synced_side (side_of s)) c refl refl (subst (λ x. LeavesSide x c) is left)

  pub settled_only : Only (shown (state_of m)) (Leaves (side_of n.a) (side_of n.b))
  settled_only c left =
      let a = only_side m.a n.a clean_a c.a left.on_a in
      let b = only_side m.b n.b clean_b c.b left.on_b in
      λ i. record { a = a i; b = b i }

  pub settled_images : (c : Image) → Leaves (side_of n.a) (side_of n.b) c → Leaves (side_of m.a) (side_of m.b) c
  settled_images c left = subst (λ x. Leaves (side_of m.a) (side_of m.b) x) (sym (settled_only c left)) (has_images m).reads

  pub settled_looks : n.calls ≡ suc m.calls → calls.Looks (view_of m) (view_of n)
  settled_looks called = record {
    reads = λ i. record { a = settles.bytes_a i; b = settles.bytes_b i };
    images = settled_images;
    elapses =
        let is = settles.past in
        let before = counted_before m in
        let a : side_of n.a ≡ side_after m.a.bytes.items [] = clean_a in
        let b : side_of n.b ≡ side_after m.b.bytes.items [] = clean_b in
        record {
          nothing_else = λ t c le left. ⊎_elim
              (λ past. inl past)
              (λ now. inr (subst (λ x. Leaves x (side_of n.b) c) (sym a) (subst (λ y. Leaves (side_after m.a.bytes.items []) y c) (sym b) now)))
              (settled_nothing_else m.a.bytes.items m.b.bytes.items (writes_of m.a) (writes_of m.b) m.calls m.begun is.point (points_of m) before.0 before.1 (is.call ∙ called) is.a is.b t c le
              (moved (side_of n.a) (side_after m.a.bytes.items []) (side_of n.b) (side_after m.b.bytes.items []) n.calls (suc m.calls) n.begun m.begun (points_of n) (is.point ∷ points_of m) t c a b called settles.begun is.more left));
          keeps = λ t c le left.
              moved (side_after m.a.bytes.items []) (side_of n.a) (side_after m.b.bytes.items []) (side_of n.b) (suc m.calls) n.calls m.begun n.begun (is.point ∷ points_of m) (points_of n) t c (sym a) (sym b) (sym called) (sym settles.begun) (sym is.more)
              (settled_keeps m.a.bytes.items m.b.bytes.items (writes_of m.a) (writes_of m.b) m.calls m.begun is.point (points_of m) before.0 before.1 (is.call ∙ called) is.a is.b t c le left);
        };
  }

  -- a call that fails once
  pub fails : (cut : DiskState → DiskState) → n.calls ≡ suc m.calls → m.faults < n.faults → blow_at (strike_of m.calls m.armed) n.calls ≡ Some Fails → strike_of n.calls n.armed ≡ None → calls.Fails cut (view_of m) (view_of n)
  fails cut called faults struck strike = record {
    time = called;
    faults = faults;
    untold = λ none. absurd (cc);
    told = λ d is.
        let told : state_of m ≡ d = cc in (
          state_of n,
          refl,
          record {
            blow = Fails;
            struck = ap (λ s. blow_at s.strike n.calls) (sym told) ∙ struck;
            left = (λ i. record { a = clean_a i; b = clean_b i; strike = strike i }) ∙ ap (λ s. after_blow Fails cut n.calls s) told;
          },
        );
  }

-- writes settled after a call that left the sides as they were
pub settles_after : (m k n : ModelDisk) → SameSides m k → Settles k n → Settles m n
settles_after m k n same settles = record {
  bytes_a = settles.bytes_a ∙ same.bytes_a;
  bytes_b = settles.bytes_b ∙ same.bytes_b;
  writes_a = settles.writes_a;
  writes_b = settles.writes_b;
  begun = settles.begun ∙ same.begun;
  past =
      let is = settles.past in
      record { point = is.point; more = is.more ∙ ap (λ points. is.point ∷ points) same.past; call = is.call; a = is.a ∙ ap reverse same.writes_a; b = is.b ∙ ap reverse same.writes_b };
}

-- a call that only looks, however it is counted
pub looks_from : {T : Type 0} (m n : ModelDisk) (r : Result T DiskFault) → Counts m n r → calls.Looks (view_of m) (view_of n)
looks_from m n (Ok x) counted = same_looks m n counted.same counted.calls
looks_from m n (Err Failed) (inl stopped) = same_looks m n stopped.same stopped.calls
looks_from m n (Err Failed) (inr failed) = settled_looks m n failed.settles failed.calls
looks_from m n (Err NoMemory) none = absurd none

-- only an armed failure fails a call once
is_failure : (n k : ℕ) (armed : Armed) → k ≡ suc n → blow_at (strike_of n armed) k ≡ Some Fails → armed ≡ Failure 0
is_failure n k Nothing next struck = cc
is_failure n k (Failure others) next struck = ap Failure (grind (arith, nat_tests))
is_failure n k (Stop others) next struck = grind (arith, nat_tests)

pub unfailed : {T : Type 0} (m n : ModelDisk) (r : Result T DiskFault) → Counts m n r → (m.armed ≡ Failure 0 → ⊥) → SameSides m n × (n.calls ≡ suc m.calls)
unfailed m n (Ok x) counted unarmed = (counted.same, counted.calls)
unfailed m n (Err Failed) (inl stopped) unarmed = (stopped.same, stopped.calls)
unfailed m n (Err Failed) (inr failed) unarmed = absurd (unarmed (is_failure m.calls n.calls m.armed failed.calls failed.struck))
unfailed m n (Err NoMemory) none unarmed = absurd none
