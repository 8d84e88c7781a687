-- One configuration by itself: members alone receive, places that are there; the sender has received its places, and who has
-- received a place the earlier ones of its sender. A receipt and a message that gets its place keep that.
use Rattle.std.proofs.Common.{◌≡◌, ℕ, zero, suc, ◌+◌, ◌-◌, ◌<◌, ◌≤◌, Bool, true, false, not, ◌&&◌, ◌||◌, [], ◌∷◌, length, Some, None, refl, sym, ap, subst, ◌∙◌, arith, eqb-true, eq-eqb, ⊎_elim, ◌⊎◌, inl, inr, find, length-append}
use Rattle.std.specs.Prelude.{◌==◌}
use Rattle.std.specs.Option.{option_map_or}
use Rattle.std.specs.List.{prefix_len}
use Rattle.std.proofs.lemmas.Bool.{cases_Bool, cases_lt, cond-true, cond-false, and_parts, or_cases, or_left, and_from}
use Rattle.cg_base.specs.Lists.{at_place, above_up_to, count_up}
use Rattle.cg_base.specs.Sets.{has}
use Rattle.cg_wire.specs.declared.message.Msg.{Msg}
use Rattle.cg_group.specs.State.{Configuration, has_received}
use Rattle.cg_group.specs.Events.{with_receipt, with_message}
use Rattle.cg_group.specs.Ready.{all_received}
use Rattle.cg_group.specs.Refusals.{sender_at, is_missing}
use Rattle.cg_group.specs.PlaceLaws.{at_place-append, at_place-last, all_received-kept}
use Rattle.cg_group.specs.GrownLaws.{Grows, has_received-receipt, ordered-receipt, level-receipt, has_received-message, has_received-last, level-message, ordered-message, Grows-message}
use Rattle.cg_agree_lemmas.specs.CountedKept.{row-grows}

pub record ConfSound (C : Configuration Msg) : Type 0 where
  pub places : length C.received ≡ length C.ordered
  pub member : (p place : ℕ) → has_received C p place ≡ true → has C.members p ≡ true
  pub sender : (place : ℕ) → 0 < place → place ≤ length C.ordered → has_received C (sender_at C place) place ≡ true
  pub closed : (p earlier place : ℕ) → 0 < earlier → earlier < place → sender_at C earlier ≡ sender_at C place → has_received C p place ≡ true → has_received C p earlier ≡ true

-- so many places every member has received
abbrev pub by_all : Configuration Msg → ℕ
by_all C = prefix_len (all_received C) (above_up_to 0 (length C.ordered))

-- in a configuration that has grown no fewer places are received by all
pub by_all-grows : (p : ℕ) (C D : Configuration Msg) → Grows p C D → by_all C ≤ by_all D
by_all-grows p C D g =
    let long : length D.ordered ≡ length C.ordered + length g.rest = ap length g.ordered ∙ length-append C.ordered g.rest in
    row-grows (all_received C) (all_received D) (length C.ordered) (length D.ordered) (omega arith)
    (λ k above within all. all_received-kept C D g.members g.kept k all)

-- ---- a receipt

module _ (C : Configuration Msg) (p place : ℕ) (sound : ConfSound C) (member : has C.members p ≡ true) (above : 0 < place) (within : place ≤ length C.ordered)
    (earlier : (k : ℕ) → 0 < k → k < place → sender_at C k ≡ sender_at C place → has_received C p k ≡ true) where
  abbrev D : Configuration Msg
  D = with_receipt C p place

  says : (q at : ℕ) → has_received D q at ≡ (has_received C q at || ((p == q) && (place == at)))
  says q at = has_received-receipt C p place q at above (subst (λ z. place ≤ z) (sym sound.places) within)

  kept : (q at : ℕ) → has_received C q at ≡ true → has_received D q at ≡ true
  kept q at got = says q at ∙ or_left (has_received C q at) ((p == q) && (place == at)) got

  before-or-now : (q at : ℕ) → has_received D q at ≡ true → (has_received C q at ≡ true) ⊎ ((p ≡ q) × (place ≡ at))
  before-or-now q at got = ⊎_elim (λ was. inl was)
      (λ now. (let parts = and_parts (p == q) (place == at) now in inr (eqb-true p q parts.0, eqb-true place at parts.1)))
      (or_cases (has_received C q at) ((p == q) && (place == at)) (sym (says q at) ∙ got))

  senders : (at : ℕ) → sender_at D at ≡ sender_at C at
  senders at = ap (λ xs. option_map_or (λ s. s.from) (at_place xs at) 0) (ordered-receipt C p place)

  members-receipt : D.members ≡ C.members
  unfolding with_receipt
  members-receipt = refl

  pub receipt-sound : ConfSound (with_receipt C p place)
  receipt-sound = record {
    places = level-receipt C p place ∙ sound.places ∙ ap length (sym (ordered-receipt C p place));
    member = λ q at got. ap (λ set. has set q) members-receipt ∙ ⊎_elim (λ was. sound.member q at was) (λ now. ap (has C.members) (sym now.0) ∙ member) (before-or-now q at got);
    sender = λ at pos le. kept (sender_at D at) at (ap (λ q. has_received C q at) (senders at) ∙ sound.sender at pos (subst (λ xs. at ≤ length xs) (ordered-receipt C p place) le));
    closed = λ q k at pos lt same got.
        let of_one = sym (senders k) ∙ same ∙ senders at in
        kept q k (⊎_elim
        (λ was. sound.closed q k at pos lt of_one was)
        (λ now. subst (λ x. has_received C x k ≡ true) now.0 (earlier k pos (subst (λ x. k < x) (sym now.1) lt) (of_one ∙ ap (sender_at C) (sym now.1))))
        (before-or-now q at got));
  }

-- ---- a message that gets its place

module _ (C : Configuration Msg) (p : ℕ) (m : Msg) (sound : ConfSound C) (member : has C.members p ≡ true) where
  abbrev E : Configuration Msg
  E = with_message C p m

  g : Grows p C (with_message C p m)
  g = Grows-message C p m sound.places

  before : (q at : ℕ) → at ≤ length C.ordered → has_received E q at ≡ has_received C q at
  before q at le = has_received-message C p m q at (subst (λ z. at ≤ z) (sym sound.places) le)

  -- behind the earlier places only the sender has received, and only the new one
  last : (q at : ℕ) → length C.ordered < at → has_received E q at ≡ true → (at ≡ suc (length C.ordered)) × (p ≡ q)
  last q at past got =
      let parts = and_parts (at == suc (length C.received)) (p == q) (sym (has_received-last C p m q at (subst (λ z. z < at) (sym sound.places) past)) ∙ got) in
      (eqb-true at (suc (length C.received)) parts.0 ∙ ap suc sound.places, eqb-true p q parts.1)

  senders-before : (at : ℕ) → at ≤ length C.ordered → sender_at E at ≡ sender_at C at
  senders-before at le =
      ap (λ xs. option_map_or (λ s. s.from) (at_place xs at) 0) (ordered-message C p m)
      ∙ ap (λ o. option_map_or (λ s. s.from) o 0) (at_place-append C.ordered (record { from = p; message = m } ∷ []) at le)

  sender-last : sender_at E (suc (length C.ordered)) ≡ p
  sender-last =
      let n = suc (length C.ordered) in
      ap (λ xs. option_map_or (λ s. s.from) (at_place xs n) 0) (ordered-message C p m)
      ∙ ap (λ o. option_map_or (λ s. s.from) o 0) (at_place-last C.ordered (record { from = p; message = m }) n (omega arith) ∙ cond-true (n == n) (Some (record { from = p; message = m })) None (eq-eqb n n refl))

  long : length E.ordered ≡ suc (length C.ordered)
  long = let one = ap length (ordered-message C p m) ∙ length-append C.ordered (record { from = p; message = m } ∷ []) in omega arith

  received-last : has_received E p (suc (length C.ordered)) ≡ true
  received-last =
      let n = suc (length C.ordered) in
      has_received-last C p m p n (subst (λ z. z < n) (sym sound.places) (omega arith))
      ∙ and_from (n == suc (length C.received)) (p == p) (eq-eqb n (suc (length C.received)) (ap suc (sym sound.places))) (eq-eqb p p refl)

  closed-at : (q k at : ℕ) → 0 < k → k < at → sender_at E k ≡ sender_at E at → has_received E q at ≡ true → has_received E q k ≡ true
  closed-at q k at pos lt same got = ⊎_elim
      (λ (past : length C.ordered < at).
      let now = last q at past got in
      let le : k ≤ length C.ordered = omega (arith, now.0) in
      let own : sender_at C k ≡ p = sym (senders-before k le) ∙ same ∙ ap (sender_at E) now.0 ∙ sender-last in
      before q k le ∙ subst (λ x. has_received C x k ≡ true) (own ∙ now.1) (sound.sender k pos le))
      (λ (le : at ≤ length C.ordered).
      let inside : k ≤ length C.ordered = omega arith in
      before q k inside ∙ sound.closed q k at pos lt (sym (senders-before k inside) ∙ same ∙ senders-before at le) (sym (before q at le) ∙ got))
      (cases_lt (length C.ordered) at)

  pub message-sound : ConfSound (with_message C p m)
  message-sound = record {
    places = level-message C p m sound.places;
    member = λ q at got. ap (λ set. has set q) g.members ∙ ⊎_elim
        (λ (past : length C.ordered < at). ap (has C.members) (sym (last q at past got).1) ∙ member)
        (λ (le : at ≤ length C.ordered). sound.member q at (sym (before q at le) ∙ got))
        (cases_lt (length C.ordered) at);
    sender = λ at pos le. ⊎_elim
        (λ (past : length C.ordered < at).
        let is : at ≡ suc (length C.ordered) = omega (arith, le, long) in
        subst (λ x. has_received E (sender_at E x) x ≡ true) (sym is) (ap (λ q. has_received E q (suc (length C.ordered))) sender-last ∙ received-last))
        (λ (inside : at ≤ length C.ordered). ap (λ q. has_received E q at) (senders-before at inside) ∙ before (sender_at C at) at inside ∙ sound.sender at pos inside)
        (cases_lt (length C.ordered) at);
    closed = closed-at;
  }

-- ---- no earlier place is missing

none-from : (t : ℕ → Bool) (low n k : ℕ) → find t (count_up low n) ≡ None → low ≤ k → k < low + n → t k ≡ false
none-from t low zero k none above within = absurd (omega arith)
none-from t low (suc n) k none above within = ⊎_elim
    (λ y. absurd (let clash : Some low ≡ None = sym (cond-true (t low) (Some low) (find t (count_up (suc low) n)) y) ∙ none in cc))
    (λ f. ⊎_elim
    (λ (lt : low < k). none-from t (suc low) n k (sym (cond-false (t low) (Some low) (find t (count_up (suc low) n)) f) ∙ none) (omega arith) (omega arith))
    (λ (le : k ≤ low). (let is : k ≡ low = omega arith in ap t is ∙ f))
    (cases_lt low k))
    (cases_Bool (t low))

-- where no earlier place of the sender is missing, all of them were received
pub nothing-missing : (C : Configuration Msg) (p place : ℕ) → find (is_missing C p place) (above_up_to 0 (place - 1)) ≡ None →
    (k : ℕ) → 0 < k → k < place → sender_at C k ≡ sender_at C place → has_received C p k ≡ true
nothing-missing C p place none k pos lt same =
    let missing = none-from (is_missing C p place) 1 (place - 1 - 0) k none (omega arith) (omega arith) in
    got (has_received C p k) (ap (λ b. b && not (has_received C p k)) (sym (eq-eqb (sender_at C k) (sender_at C place) same)) ∙ missing) where
      got : (b : Bool) → not b ≡ false → b ≡ true
      got true e = refl
      got false e = absurd (let clash : true ≡ false = e in cc)
