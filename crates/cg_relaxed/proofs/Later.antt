-- Of two writes the later: it is associative, a write that was taken already changes nothing, and writes of two actions
-- may change places.
use Rattle.std.proofs.Common.{◌≡◌, ℕ, suc, Bool, true, false, cond, ltb, List, [], ◌∷◌, inl, inr, refl, sym, ap, ◌∙◌, arith, Ordering, Less, Equal, Greater}
use Rattle.std.specs.Prelude.{Option, Some, None, option_map}
use Rattle.std.specs.Cmp.{IsTotalOrder}
use Rattle.std.specs.Ordering.{nat_cmp, ordering_then, ordering_reverse, is_lt}
use Rattle.std.proofs.lemmas.Bool.{cases_order, eq-eqb, ne_eqb, lt-ltb, le-ltb}
use Rattle.std.proofs.lemmas.Cmp.{nat_cmp_total, on_total, then_total, alike_right}
use Rattle.std.proofs.lemmas.Map.Lookups.{exact_unsigned}
use Rattle.cg_action.specs.declared.value.Value.{Value}
use Rattle.cg_action.specs.declared.command.Cmd.{Cmd}
use Rattle.cg_action.specs.declared.action.Action.{Action}
use Rattle.cg_relaxed.specs.declared.write.Stamp.{Stamp}
use Rattle.cg_relaxed.specs.declared.write.Write.{Write}
use Rattle.cg_relaxed.specs.Writes.{less_or, stamp_before, later_of, later, writes, write_of, written_from, written, counted, first_stamp}

-- ---- stamps are ordered as std orders what is compared part by part

abbrev stamp_cmp : Stamp → Stamp → Ordering
stamp_cmp s t =
    ordering_then (nat_cmp s.green_line t.green_line)
    (ordering_then (nat_cmp s.index t.index) (ordering_then (nat_cmp s.creator t.creator) (nat_cmp s.place t.place)))

stamps_total : IsTotalOrder stamp_cmp
stamps_total =
    then_total (on_total (λ (s : Stamp). s.green_line) nat_cmp_total)
    (then_total (on_total (λ (s : Stamp). s.index) nat_cmp_total)
    (then_total (on_total (λ (s : Stamp). s.creator) nat_cmp_total) (on_total (λ (s : Stamp). s.place) nat_cmp_total)))

less_or-is : (m n : ℕ) (o : Ordering) → less_or m n (is_lt o) ≡ is_lt (ordering_then (nat_cmp m n) o)
less_or-is m n o = elim (cases_order m n) [
  | inl same ↦ rw (le-ltb m n (omega arith), eq-eqb m n same)
  | inr apart ↦ elim apart [
    | inl below ↦ rw (lt-ltb m n below)
    | inr above ↦ rw (le-ltb m n (omega arith), ne_eqb m n (λ e. omega arith))
  ]
]

place-is : (m n : ℕ) → ltb m n ≡ is_lt (nat_cmp m n)
place-is m n = elim (cases_order m n) [
  | inl same ↦ rw (le-ltb m n (omega arith), eq-eqb m n same)
  | inr apart ↦ elim apart [
    | inl below ↦ rw (lt-ltb m n below)
    | inr above ↦ rw (le-ltb m n (omega arith), ne_eqb m n (λ e. omega arith))
  ]
]

before-is : (s t : Stamp) → stamp_before s t ≡ is_lt (stamp_cmp s t)
before-is s t =
    let place = nat_cmp s.place t.place in
    let creator = ordering_then (nat_cmp s.creator t.creator) place in
    let index = ordering_then (nat_cmp s.index t.index) creator in
    ap (λ b. less_or s.green_line t.green_line (less_or s.index t.index (less_or s.creator t.creator b))) (place-is s.place t.place)
    ∙ ap (λ b. less_or s.green_line t.green_line (less_or s.index t.index b)) (less_or-is s.creator t.creator place)
    ∙ ap (λ b. less_or s.green_line t.green_line b) (less_or-is s.index t.index creator)
    ∙ less_or-is s.green_line t.green_line index

-- ---- of two writes

takes : (v w : Write) (o : Ordering) → stamp_cmp v.stamp w.stamp ≡ o → later_of v w ≡ cond (is_lt o) w v
takes v w o is = ap (λ b. cond b w v) (before-is v.stamp w.stamp ∙ ap (λ x. is_lt x) is)

-- what the comparison is from the other side
back : (v w : Write) (o : Ordering) → stamp_cmp v.stamp w.stamp ≡ o → stamp_cmp w.stamp v.stamp ≡ ordering_reverse o
back v w o is = stamps_total.antisymm w.stamp v.stamp ∙ ap (λ x. ordering_reverse x) is

itself : (u : Write) → later_of u u ≡ u
itself u = at (stamp_before u.stamp u.stamp)
  where
    at : (b : Bool) → cond b u u ≡ u
    at true = refl
    at false = refl

not-later : (u v w : Write) → stamp_cmp u.stamp v.stamp ≡ Greater → (o : Ordering) → stamp_cmp v.stamp w.stamp ≡ o → is_lt o ≡ false →
    stamp_cmp u.stamp w.stamp ≡ Greater
not-later u v w first Less second ge = absurd (cc)
not-later u v w first Equal second ge = sym (alike_right stamps_total v.stamp w.stamp u.stamp second) ∙ first
not-later u v w first Greater second ge =
    back w u Less (stamps_total.trans w.stamp v.stamp u.stamp (back v w Greater second) (back u v Greater first))

assoc-at : (u v w : Write) (o p : Ordering) → stamp_cmp u.stamp v.stamp ≡ o → stamp_cmp v.stamp w.stamp ≡ p →
    later_of (later_of u v) w ≡ later_of u (later_of v w)
assoc-at u v w Less Less first second =
    let third = stamps_total.trans u.stamp v.stamp w.stamp first second in
    ap (λ x. later_of x w) (takes u v Less first) ∙ takes v w Less second
    ∙ sym (ap (λ x. later_of u x) (takes v w Less second) ∙ takes u w Less third)
assoc-at u v w Less Equal first second =
    ap (λ x. later_of x w) (takes u v Less first) ∙ takes v w Equal second
    ∙ sym (ap (λ x. later_of u x) (takes v w Equal second) ∙ takes u v Less first)
assoc-at u v w Less Greater first second =
    ap (λ x. later_of x w) (takes u v Less first) ∙ takes v w Greater second
    ∙ sym (ap (λ x. later_of u x) (takes v w Greater second) ∙ takes u v Less first)
assoc-at u v w Equal Less first second =
    ap (λ x. later_of x w) (takes u v Equal first) ∙ sym (ap (λ x. later_of u x) (takes v w Less second))
assoc-at u v w Equal Equal first second =
    ap (λ x. later_of x w) (takes u v Equal first)
    ∙ takes u w Equal (stamps_total.congr u.stamp v.stamp w.stamp first ∙ second)
    ∙ sym (ap (λ x. later_of u x) (takes v w Equal second) ∙ takes u v Equal first)
assoc-at u v w Equal Greater first second =
    ap (λ x. later_of x w) (takes u v Equal first)
    ∙ takes u w Greater (stamps_total.congr u.stamp v.stamp w.stamp first ∙ second)
    ∙ sym (ap (λ x. later_of u x) (takes v w Greater second) ∙ takes u v Equal first)
assoc-at u v w Greater Less first second =
    ap (λ x. later_of x w) (takes u v Greater first) ∙ sym (ap (λ x. later_of u x) (takes v w Less second))
assoc-at u v w Greater Equal first second =
    ap (λ x. later_of x w) (takes u v Greater first)
    ∙ takes u w Greater (not-later u v w first Equal second refl)
    ∙ sym (ap (λ x. later_of u x) (takes v w Equal second) ∙ takes u v Greater first)
assoc-at u v w Greater Greater first second =
    ap (λ x. later_of x w) (takes u v Greater first)
    ∙ takes u w Greater (not-later u v w first Greater second refl)
    ∙ sym (ap (λ x. later_of u x) (takes v w Greater second) ∙ takes u v Greater first)

again-at : (u v : Write) (o : Ordering) → stamp_cmp u.stamp v.stamp ≡ o → later_of (later_of u v) u ≡ later_of u v
again-at u v Less first =
    ap (λ x. later_of x u) (takes u v Less first) ∙ takes v u Greater (back u v Less first) ∙ sym (takes u v Less first)
again-at u v Equal first = ap (λ x. later_of x u) (takes u v Equal first) ∙ itself u ∙ sym (takes u v Equal first)
again-at u v Greater first = ap (λ x. later_of x u) (takes u v Greater first) ∙ itself u ∙ sym (takes u v Greater first)

commute-at : (u v : Write) (o : Ordering) → stamp_cmp u.stamp v.stamp ≡ o → (o ≡ Equal → ⊥) → later_of u v ≡ later_of v u
commute-at u v Less first apart = takes u v Less first ∙ sym (takes v u Greater (back u v Less first))
commute-at u v Equal first apart = absurd (apart refl)
commute-at u v Greater first apart = takes u v Greater first ∙ sym (takes v u Less (back u v Greater first))

both-equal : (o p : Ordering) → ordering_then o p ≡ Equal → (o ≡ Equal) × (p ≡ Equal)
both-equal Less p is = absurd (cc)
both-equal Equal p is = (refl, is)
both-equal Greater p is = absurd (cc)

-- stamps that compare as equal are those of one action
one-action : (s t : Stamp) → stamp_cmp s t ≡ Equal → (s.index ≡ t.index) × (s.creator ≡ t.creator)
one-action s t is =
    let place = nat_cmp s.place t.place in
    let creator = ordering_then (nat_cmp s.creator t.creator) place in
    let index = ordering_then (nat_cmp s.index t.index) creator in
    let rest = both-equal (nat_cmp s.green_line t.green_line) index is in
    let parts = both-equal (nat_cmp s.index t.index) creator rest.1 in
    let last = both-equal (nat_cmp s.creator t.creator) place parts.1 in
    (exact_unsigned s.index t.index parts.0, exact_unsigned s.creator t.creator last.0)

-- ---- of writes that may be none

pub later-none : (w : Option Write) → later w None ≡ w
later-none None = refl
later-none (Some w) = refl

pub later-assoc : (u v w : Option Write) → later (later u v) w ≡ later u (later v w)
later-assoc None v w = refl
later-assoc (Some u) None w = refl
later-assoc (Some u) (Some v) None = refl
later-assoc (Some u) (Some v) (Some w) =
    ap Some (assoc-at u v w (stamp_cmp u.stamp v.stamp) (stamp_cmp v.stamp w.stamp) refl refl)

pub later-again : (u v : Option Write) → later (later u v) u ≡ later u v
later-again None v = later-none v
later-again (Some u) None = ap Some (itself u)
later-again (Some u) (Some v) = ap Some (again-at u v (stamp_cmp u.stamp v.stamp) refl)

pub later-itself : (u : Option Write) → later u u ≡ u
later-itself None = refl
later-itself (Some u) = ap Some (itself u)

-- it holds of the stamp, if there is a write
abbrev pub Of : (Stamp → Type 0) → Option Write → Type 0
Of P None = Unit {0}
Of P (Some w) = P w.stamp

pub Of-more : (P Q : Stamp → Type 0) (w : Option Write) → ((s : Stamp) → P s → Q s) → Of P w → Of Q w
Of-more P Q None all of = tt
Of-more P Q (Some w) all of = all w.stamp of

pub Of-later : (P : Stamp → Type 0) (v w : Option Write) → Of P v → Of P w → Of P (later v w)
Of-later P None w one other = other
Of-later P (Some v) None one other = one
Of-later P (Some v) (Some w) one other = at (stamp_before v.stamp w.stamp)
  where
    at : (b : Bool) → P (cond b w v).stamp
    at true = other
    at false = one

-- writes of two actions may change places
pub later-commutes : (P Q : Stamp → Type 0) (v w : Option Write) → Of P v → Of Q w →
    ((s t : Stamp) → P s → Q t → s.index ≡ t.index → s.creator ≡ t.creator → ⊥) → later v w ≡ later w v
later-commutes P Q None w one other apart = sym (later-none w)
later-commutes P Q (Some v) None one other apart = refl
later-commutes P Q (Some v) (Some w) one other apart =
    ap Some (commute-at v w (stamp_cmp v.stamp w.stamp) refl
    (λ is. let same = one-action v.stamp w.stamp is in apart v.stamp w.stamp one other same.0 same.1))

-- ---- the writes of an action

-- the stamp has this index and this creator
pub record IsOfAction (index creator : ℕ) (s : Stamp) : Type 0 where
  pub of_index : s.index ≡ index
  pub of_creator : s.creator ≡ creator

write-of : (stamp : Stamp) (o : Option (Option Value)) (index creator : ℕ) → IsOfAction index creator stamp →
    Of (IsOfAction index creator) (option_map (λ value. record { stamp = stamp; value = value }) o)
write-of stamp None index creator is = tt
write-of stamp (Some value) index creator is = is

written-of : (key : List ℕ) (stamp : Stamp) (cmds : List Cmd) (index creator : ℕ) → IsOfAction index creator stamp →
    Of (IsOfAction index creator) (written_from key stamp cmds)
written-of key stamp [] index creator is = tt
written-of key stamp (cmd ∷ cmds) index creator is =
    Of-later (IsOfAction index creator) (write_of key stamp cmd) (written_from key (record stamp { place = suc stamp.place }) cmds)
    (write-of stamp (writes key cmd) index creator is)
    (written-of key (record stamp { place = suc stamp.place }) cmds index creator (record { of_index = is.of_index; of_creator = is.of_creator }))

pub written-by : (key : List ℕ) (a : Action) → Of (IsOfAction a.id.index a.id.creator) (written key a)
written-by key a =
    written-of key (first_stamp a) (counted a.kind) a.id.index a.id.creator (record { of_index = refl; of_creator = refl })
