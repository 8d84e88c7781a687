-- Filling a side in offset: which bytes stand there once the offsets below one have been gone through.
use Rattle.std.proofs.Common.{◌≡◌, ℕ, ◌+◌, ◌-◌, ◌≤◌, ◌<◌, true, false, List, [], ◌∷◌, ◌++◌, length, get_or, set, take, drop, refl, sym, ◌∙◌, ap, subst, append_assoc, take-append-drop, length-append, length-drop, arith}
use Rattle.std.proofs.lemmas.List.{drop_more, drop_all, drop-drop, drop-set-lt, take_more, take_more_set, length-set, append-nil, get_or-drop, get_or-append_right}
use Rattle.cg_disk.specs.State.{SideState, is_unsynced, filled_from, filled}
use Rattle.cg_disk.proofs.Images.{fill_kept, fill_next, fill_old, fill_ends}
use Rattle.cg_disk.proofs.Untouched.{Untouched, filled_past, filled_rest}

-- the offsets below one are filled, by so many bytes of the fill, and from there on the side is as it was
pub record FilledBelow (s : SideState) (fill : List ℕ) (offset used : ℕ) (left : List ℕ) : Type 0 where
  pub same : take offset left ++ filled_from s offset (drop offset s.seen) (drop used fill) ≡ filled s fill
  pub rest : drop offset left ≡ drop offset s.seen
  pub size : length left ≡ length s.seen

one_byte : (bytes bytes' rest rest' total : List ℕ) (x : ℕ) → bytes ++ rest ≡ total → rest ≡ x ∷ rest' → bytes' ≡ bytes ++ x ∷ [] → bytes' ++ rest' ≡ total
one_byte bytes bytes' rest rest' total x so_far next more = ap (λ (l : List ℕ). l ++ rest') more ∙ append_assoc bytes (x ∷ []) rest' ∙ ap (λ (l : List ℕ). bytes ++ l) (sym next) ∙ so_far

pub fill_begins : (s : SideState) (fill : List ℕ) (from : ℕ) → Untouched s 0 from → FilledBelow s fill from 0 s.seen
fill_begins s fill from free = record {
  same = ap (λ n. take from s.seen ++ filled_from s n (drop from s.seen) fill) (let e : from ≡ 0 + from = omega arith in e) ∙ sym (filled_past s 0 from s.seen fill free);
  rest = refl;
  size = refl;
}

pub same_filled : (s : SideState) (fill : List ℕ) (offset used used' : ℕ) (left left' : List ℕ) → used' ≡ used → left' ≡ left → FilledBelow s fill offset used left → FilledBelow s fill offset used' left'
same_filled s fill offset used used' left left' same_used same_left below =
    subst (λ n. FilledBelow s fill offset n left') (sym same_used) (subst (λ (l : List ℕ). FilledBelow s fill offset used l) (sym same_left) below)

module _ (s : SideState) (fill : List ℕ) (offset used : ℕ) (left : List ℕ) (below : FilledBelow s fill offset used left) where
  pub fill_done : Untouched s offset (length s.seen - offset) → left ≡ filled s fill
  fill_done free =
      let behind : filled_from s offset (drop offset s.seen) (drop used fill) ≡ drop offset s.seen =
      filled_rest s offset (drop offset s.seen) (drop used fill) (λ k above under. free k above (omega (arith, length-drop offset s.seen))) in
      sym (take-append-drop offset left) ∙ ap (λ (l : List ℕ). take offset left ++ l) (below.rest ∙ sym behind) ∙ below.same

  module _ (inside : offset < length s.seen) where
    at_hand : offset < length left
    at_hand = omega (arith, below.size)

    rest_more : drop (offset + 1) left ≡ drop (offset + 1) s.seen
    rest_more = sym (drop-drop 1 offset left) ∙ ap (λ (l : List ℕ). drop 1 l) below.rest ∙ drop-drop 1 offset s.seen

    same_byte : get_or left offset 0 ≡ get_or s.seen offset 0
    same_byte =
        let e : offset ≡ offset + 0 = omega arith in
        ap (λ n. get_or left n 0) e ∙ sym (get_or-drop offset left 0 0) ∙ ap (λ (l : List ℕ). get_or l 0 0) below.rest ∙ get_or-drop offset s.seen 0 0 ∙ ap (λ n. get_or s.seen n 0) (sym e)

    pub fill_keeps : is_unsynced s.unsynced offset ≡ false → FilledBelow s fill (offset + 1) used left
    fill_keeps free = record {
      same = one_byte (take offset left) (take (offset + 1) left) _ (filled_from s (offset + 1) (drop (offset + 1) s.seen) (drop used fill)) (filled s fill) (get_or s.seen offset 0)
          below.same (fill_kept s offset s.seen inside (drop used fill) free) (take_more left offset 0 at_hand ∙ ap (λ x. take offset left ++ x ∷ []) same_byte);
      rest = rest_more;
      size = below.size;
    }

    -- another byte stands at the offset
    set_same : (x : ℕ) (rest' : List ℕ) → filled_from s offset (drop offset s.seen) (drop used fill) ≡ x ∷ rest' → take (offset + 1) (set left offset x) ++ rest' ≡ filled s fill
    set_same x rest' next = one_byte (take offset left) (take (offset + 1) (set left offset x)) _ rest' (filled s fill) x below.same next (take_more_set left offset x at_hand)

    set_rest : (x : ℕ) → drop (offset + 1) (set left offset x) ≡ drop (offset + 1) s.seen
    set_rest x = drop-set-lt (offset + 1) left offset x (omega arith) ∙ rest_more

    set_size : (x : ℕ) → length (set left offset x) ≡ length s.seen
    set_size x = length-set left offset x ∙ below.size

    module _ (written : is_unsynced s.unsynced offset ≡ true) where
      pub fill_takes : used < length fill → FilledBelow s fill (offset + 1) (used + 1) (set left offset (get_or fill used 0))
      fill_takes more = record {
        same = set_same (get_or fill used 0) (filled_from s (offset + 1) (drop (offset + 1) s.seen) (drop (used + 1) fill))
            (ap (λ (l : List ℕ). filled_from s offset (drop offset s.seen) l) (drop_more fill used 0 more) ∙ fill_next s offset s.seen inside (get_or fill used 0) (drop (used + 1) fill) written);
        rest = set_rest (get_or fill used 0);
        size = set_size (get_or fill used 0);
      }

      module _ (none : length fill ≤ used) where
        spent : drop used fill ≡ []
        spent = drop_all used fill none

        pub fill_puts_back : offset < length s.old → FilledBelow s fill (offset + 1) used (set left offset (get_or s.old offset 0))
        fill_puts_back there = record {
          same = set_same (get_or s.old offset 0) (filled_from s (offset + 1) (drop (offset + 1) s.seen) (drop used fill))
              (ap (λ (l : List ℕ). filled_from s offset (drop offset s.seen) l) spent ∙ fill_old s offset s.seen inside there written ∙ ap (λ (l : List ℕ). get_or s.old offset 0 ∷ filled_from s (offset + 1) (drop (offset + 1) s.seen) l) (sym spent));
          rest = set_rest (get_or s.old offset 0);
          size = set_size (get_or s.old offset 0);
        }

        pub fill_stops : length s.old ≤ offset → take offset left ≡ filled s fill
        fill_stops past =
            sym (append-nil (take offset left))
            ∙ ap (λ (l : List ℕ). take offset left ++ l) (sym (ap (λ (l : List ℕ). filled_from s offset (drop offset s.seen) l) spent ∙ fill_ends s offset s.seen inside past written))
            ∙ below.same

-- the old bytes from an offset on tell those of the whole
pub old_at : (front old all : List ℕ) (from offset : ℕ) → front ++ old ≡ all → length front ≡ from → from ≤ offset → (length all ≡ from + length old) × (get_or all offset 0 ≡ get_or old (offset - from) 0)
old_at front old all from offset is size above =
    (omega (arith, ap length is, length-append front old), ap (λ (l : List ℕ). get_or l offset 0) (sym is) ∙ get_or-append_right front old from offset 0 size above)
