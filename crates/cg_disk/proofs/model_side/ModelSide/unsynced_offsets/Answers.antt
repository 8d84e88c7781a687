use Rattle.std.proofs.Common.{◌≡◌, ℕ, ◌+◌, ◌<◌, ◌≤◌, List, length, length-drop, drop, All, true, false, sym, ◌∙◌, ap, subst, arith}
use Rattle.std.specs.Bool.{if◌then◌else◌}
use Rattle.cg_disk.specs.State.{is_unsynced, unsynced_from}
use Rattle.cg_disk.specs.Undo.{ranges}
use Rattle.cg_disk.specs.Model.{side_of}
use Rattle.cg_disk.specs.declared.written.Written.{Written}
use Rattle.cg_disk.proofs.Offsets.{among_reverse, count_step}
use Rattle.cg_disk.proofs.Untouched.{untouched_below, untouched_behind, unsynced_past, unsynced_rest}
use Rattle.cg_disk.proofs.model_side.ModelSide.unsynced_offsets.Goals as goal
use Rattle.cg_disk.proofs.model_side.ModelSide.unsynced_offsets.Goals.{then-is_among, else-is_among}

pub loop-offset-init : goal.loop-offset-init
loop-offset-init c =
    let s = c.args.self.now in
    let from = c.lowest_offset-from.result in
    let above : All (λ w. from ≤ w.offset) s.unsynced.items = subst (λ (l : List Written). All (λ w. from ≤ w.offset) l) c.deref.ensures.value c.lowest_offset-from.ensures.above in
    let past = unsynced_past (side_of s) 0 from s.bytes.items (untouched_below s.bytes.items s.unsynced.items from above) in
    let start : 0 + from ≡ from = omega arith in
    let same : unsynced_from (side_of s) 0 s.bytes.items ≡ unsynced_from (side_of s) from (drop from s.bytes.items) = past ∙ ap (λ n. unsynced_from (side_of s) n (drop from s.bytes.items)) start in
    (omega (arith, same), omega arith)

pub loop-offset-preserved : goal.loop-offset-preserved
loop-offset-preserved c =
    let s = c.args.self.now in
    let inside : c.loop-offset.offset < length s.bytes.items = omega (arith, s.bytes.ok.0, c.len-2.ensures, c.highest_end-to.ensures.within, c.loop-offset-test.true) in
    let step = count_step (side_of s) c.loop-offset.offset s.bytes.items inside in
    let among : c.is_among.result ≡ is_unsynced (side_of s).unsynced c.loop-offset.offset =
    c.is_among.ensures ∙ ap (λ (l : List Written). is_unsynced (ranges l) c.loop-offset.offset) c.deref-in-loop-offset.ensures.value ∙ sym (among_reverse s.unsynced.items c.loop-offset.offset) in
    elim c.if-is_among.branch [
      | then-is_among w ↦
          let test : is_unsynced (side_of s).unsynced c.loop-offset.offset ≡ true = sym among ∙ w.if-is_among.true in
          let one = ap {B = ℕ} (λ b. if b then 1 else 0) test in
          (omega (arith, step, one, c.loop-offset.invariant.0), omega (arith, c.loop-offset.invariant.1))
      | else-is_among w ↦
          let test : is_unsynced (side_of s).unsynced c.loop-offset.offset ≡ false = sym among ∙ w.if-is_among.false in
          let none = ap {B = ℕ} (λ b. if b then 1 else 0) test in
          (omega (arith, step, none, c.loop-offset.invariant.0), omega (arith, c.loop-offset.invariant.1))
    ]

pub returns : goal.returns
returns c =
    let s = c.args.self.now in
    let offset = c.loop-offset.offset in
    let to = c.highest_end-to.result in
    let none : (k : ℕ) → to ≤ k → k < length s.bytes.items → is_unsynced (ranges s.unsynced.items) k ≡ false =
    λ k above below. subst (λ (l : List Written). is_unsynced (ranges l) k ≡ false) c.deref-2.ensures.value (c.highest_end-to.ensures.none k above (omega (arith, c.len-2.ensures, s.bytes.ok.0))) in
    let free = untouched_behind s.bytes.items s.unsynced.items to (length s.bytes.items) offset none (omega (arith, c.loop-offset-test.false)) in
    let rest = unsynced_rest (side_of s) offset (drop offset s.bytes.items) (λ k above below. free k above (omega (arith, length-drop offset s.bytes.items))) in
    omega (arith, rest, c.loop-offset.invariant.0)
