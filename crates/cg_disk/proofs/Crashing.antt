-- What a crash leaves of a disk in memory.
use Rattle.std.proofs.Common.{◌≡◌, ℕ, ◌-◌, min, List, length, take, drop, Option, Some, None, sym, ◌∙◌, ap, subst, length-drop, arith}
use Rattle.std.proofs.lemmas.List.{take_all, drop_min}
use Rattle.cg_disk.specs.Sides.{Image}
use Rattle.cg_disk.specs.State.{SideState, DiskStrike, Leaves, left_by, synced_side}
use Rattle.cg_disk.specs.View.{IsAtRest}
use Rattle.cg_disk.specs.Crashes.{IsCrashed, IsCopy, clean_side}
use Rattle.cg_disk.specs.Model.{side_of, state_of, view_of, view_with}
use Rattle.cg_disk.specs.Past.{SyncPoint}
use Rattle.cg_disk.specs.declared.model_disk.ModelDisk.{ModelDisk}
use Rattle.cg_disk.proofs.Images.{only_seen}
use Rattle.cg_disk.proofs.Counting.{has_images}

module _ (a b : SideState) (calls faults begun : ℕ) (points : List SyncPoint) where
  -- where everything is synced a crash leaves what a read gives
  pub rests : (strike : Option DiskStrike) (bytes_a bytes_b : List ℕ) → a ≡ clean_side bytes_a → b ≡ clean_side bytes_b → IsAtRest (view_with a b strike calls faults begun points)
  rests strike bytes_a bytes_b clean_a clean_b = record {
    only = λ c left.
        let on_a = only_seen a c.a (λ i. (clean_a i).unsynced) ((λ i. (clean_a i).old) ∙ sym (λ i. (clean_a i).seen)) left.on_a in
        let on_b = only_seen b c.b (λ i. (clean_b i).unsynced) ((λ i. (clean_b i).old) ∙ sym (λ i. (clean_b i).seen)) left.on_b in
        λ i. record { a = on_a i; b = on_b i };
    clean = (clean_a ∙ sym (ap synced_side clean_a), clean_b ∙ sym (ap synced_side clean_b));
  }

  pub crashed : (fill : List ℕ) (m : ModelDisk) → a ≡ clean_side (left_by (state_of m) fill).a → b ≡ clean_side (left_by (state_of m) fill).b → calls ≡ m.calls → faults ≡ m.faults → IsCrashed fill (view_of m) (view_with a b None calls faults begun points)
  crashed fill m clean_a clean_b same_calls same_faults =
      let image : Image = record { a = a.seen; b = b.seen } in
      let reads : image ≡ left_by (state_of m) fill = λ i. record { a = (clean_a i).seen; b = (clean_b i).seen } in
      record {
        state = λ i. Some (record { a = clean_a i; b = clean_b i; strike = None });
        reads = reads;
        image = subst (λ x. Leaves (side_of m.a) (side_of m.b) x) (sym reads) ((has_images m).fills fill);
        rest = rests None (left_by (state_of m) fill).a (left_by (state_of m) fill).b clean_a clean_b;
        time = same_calls;
        faults = same_faults;
      }

  pub copied : (m : ModelDisk) → a ≡ clean_side m.a.bytes.items → b ≡ clean_side m.b.bytes.items → calls ≡ 0 → faults ≡ 0 → IsCopy (view_of m) (view_with a b None calls faults begun points)
  copied m clean_a clean_b no_calls no_faults = record {
    reads = λ i. record { a = (clean_a i).seen; b = (clean_b i).seen };
    state = λ i. Some (record { a = clean_a i; b = clean_b i; strike = None });
    time = no_calls;
    faults = no_faults;
    rest = rests None m.a.bytes.items m.b.bytes.items clean_a clean_b;
  }

-- what is left of the fill behind the offsets that it filled
pub rest_of_fill : (used count : ℕ) (fill : List ℕ) → used ≡ min count (length fill) → take (length fill - used) (drop used fill) ≡ drop count fill
rest_of_fill used count fill is = take_all (length fill - used) (drop used fill) (omega (arith, length-drop used fill)) ∙ ap (λ n. drop n fill) is ∙ drop_min count fill
