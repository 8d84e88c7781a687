-- The items of a list in bytes, read and put in one after another, as a loop does; and the parts of a change.
use Rattle.std.proofs.Common.{◌≡◌, ◌≢◌, ℕ, zero, suc, ◌+◌, ◌-◌, ◌≤◌, ◌<◌, List, [], ◌∷◌, ◌++◌, Bool, true, false, Option, Some, None, Result, Ok, Err, IfOk, refl, sym, ap, subst, ◌∙◌}
use Rattle.std.specs.Prelude.{◌^◌, option_and_then}
use Rattle.cg_codec.specs.declared.fault.CodecFault.{CodecFault}
use Rattle.cg_codec.specs.declared.fault.CodecFault.TheVariants.{NoMemory}
use Rattle.cg_codec.specs.Reading.{Unread, Reading, go_on, take_items, take_count, whole}
use Rattle.cg_codec.specs.Laws.{AreBytes, IsField}
use Rattle.cg_codec.specs.Taking.{TakesWithMemory}
use Rattle.cg_codec.specs.FieldLaws.{go_on-ok, ended-ok}
use Rattle.cg_codec.specs.ItemLaws.{items_go_on, items_stop, items_end}
use Rattle.cg_records.specs.declared.stable.Stable.{Stable}
use Rattle.cg_records.specs.Reading.{take_stable}
use Rattle.cg_client.specs.Replica.{Held}
use Rattle.cg_disk_records.specs.Stored.{Stored}
use Rattle.cg_disk_records.specs.declared.change.Change.{Change}
use Rattle.cg_disk_records.specs.Following.{know, green_by_name, make, all_of, with_values, after_change, change_with}
use Rattle.cg_disk_records.specs.Parts.{read_value, change_in}
use Rattle.cg_disk_records.specs.Reading.{actions_reading, ids_reading, change_reading}
use Rattle.cg_store.specs.declared.replay.ChangeList.{ChangeList}
use Rattle.cg_store.specs.declared.replay.ChangeList.TheVariants.{Known, Green, Made}
use Rattle.cg_store.specs.Opening.{Follows}
use Rattle.cg_store.specs.Putting.{item_reading, list_reading, item_step, PutsNext, PutsAll}
use Rattle.cg_store.specs.Stands.{led_by}
use Rattle.cg_store.proofs.Replaying.{unknown_none, ungreen_none, unmade_none, all_marked, all_fit}

-- items behind others lead to what they lead to from where the others lead
pub all_of-behind : {A : Type 0} (go : Stored → A → Option Stored) (s : Option Stored) (xs ys : List A) → all_of go s (xs ++ ys) ≡ all_of go (all_of go s xs) ys
all_of-behind go s [] ys = refl
all_of-behind go s (x ∷ xs) ys = all_of-behind go (option_and_then (λ t. go t x) s) xs ys

-- bytes at fault fit nowhere
pub refused-puts : (P : Bool → Type 0) (E : Type 0) (r : Result Bool E) (fault : CodecFault) → IfOk r (λ fits. (fits ≡ false) × (fault ≢ NoMemory)) → (fault ≢ NoMemory → P false) → IfOk r P
refused-puts P E (Ok fits) fault is none = subst P (sym is.0) (none is.1)
refused-puts P E (Err e) fault is none = tt

-- what was read is one thing
abbrev gives : {X : Type 0} → X → Result X CodecFault
gives x = Ok x

pub ok-is : {X : Type 0} (p q : X) → gives p ≡ gives q → p ≡ q
ok-is p q is = cc

never : {X : Type 0} {r : Result X CodecFault} {x : X} {fault : CodecFault} → r ≡ Err fault → r ≡ Ok x → ⊥
never none is = cc

module _ {A : Type 0} (item : Reading A) (go : Stored → A → Option Stored) (s : Stored) where
  -- where those taken don't fit together, those that stand behind them don't either
  none-leads : (n : ℕ) (taken : List A) (left : Unread) (list : List A) (rest : Unread) → all_of go (Some s) taken ≡ None → take_items (λ _. item) n taken left ≡ Ok (list, rest) → all_of go (Some s) list ≡ None
  unfolding take_items
  none-leads zero taken left list rest none is = sym (ap (λ p. all_of go (Some s) p.0) (ok-is (taken, left) (list, rest) is)) ∙ none
  none-leads (suc n) taken left list rest none is = at (item left) (λ y. none-leads n (taken ++ y.0 ∷ []) y.1 list rest (all_of-behind go (Some s) taken (y.0 ∷ []) ∙ ap (λ o. all_of go o (y.0 ∷ [])) none)) is where
    at : (found : Result (A × Unread) CodecFault)
        → ((y : A × Unread) → take_items (λ _. item) n (taken ++ y.0 ∷ []) y.1 ≡ Ok (list, rest) → all_of go (Some s) list ≡ None)
        → go_on found (λ x. take_items (λ _. item) n (taken ++ x ∷ [])) ≡ Ok (list, rest) → all_of go (Some s) list ≡ None
    at (Ok y) more is = more y is
    at (Err fault) more is = absurd cc

  -- those that were taken so far fit, and those that are left stand behind them
  abbrev pub Goes : (count : ℕ) (start : Unread) → ℕ → Unread → Stored → Type 0
  Goes count start i left t = (taken : List A) × (take_items (λ _. item) (count - i) taken left ≡ take_items (λ _. item) count [] start) × (all_of go (Some s) taken ≡ Some t)

  pub goes-on : (count : ℕ) (start : Unread) (i : ℕ) (left after : Unread) (t u : Stored) (x : A) → i < count → item left ≡ Ok (x, after) → go t x ≡ Some u → Goes count start i left t → Goes count start (i + 1) after u
  goes-on count start i left after t u x lt one fits g =
      (g.0 ++ x ∷ [], items_go_on (λ _. item) count i g.0 left after x _ lt one g.1, all_of-behind go (Some s) g.0 (x ∷ []) ∙ ap (λ o. all_of go o (x ∷ [])) g.2 ∙ fits)

  module _ (reading : Reading (List A)) (old start : Unread) (count : ℕ) (counted : reading old ≡ take_items (λ _. item) count [] start) where
    pub stops : (i : ℕ) (left after : Unread) (t u new : Stored) (end : Unread) → i < count → PutsNext item go t left u after false → Goes count start i left t → PutsAll reading go s old new end false
    stops i left after t u new end lt none g list rest is = at (item left) refl where
      at : (found : Result (A × Unread) CodecFault) → item left ≡ found → all_of go (Some s) list ≡ None
      at (Ok y) one =
          none-leads (count - (i + 1)) (g.0 ++ y.0 ∷ []) y.1 list rest (all_of-behind go (Some s) g.0 (y.0 ∷ []) ∙ ap (λ o. all_of go o (y.0 ∷ [])) g.2 ∙ none y.0 y.1 one)
          (items_go_on (λ _. item) count i g.0 left y.1 y.0 _ lt one g.1 ∙ sym counted ∙ is)
      at (Err fault) one =
          let no : reading old ≡ Err fault = counted ∙ items_stop (λ _. item) count i g.0 left fault _ lt one g.1 in
          absurd cc

    pub ends : (i : ℕ) (left : Unread) (t : Stored) → count ≤ i → Goes count start i left t → PutsAll reading go s old t left true
    ends i left t le g = (g.0, counted ∙ items_end (λ _. item) count i g.0 left _ le g.1, g.2)

-- what a list is read as, behind its number
pub list-counted : (list : ChangeList) (old start : Unread) (count : ℕ) → take_count (2 ^ 32 - 1) old ≡ Ok (count, start) → list_reading list old ≡ take_items (λ _. item_reading list) count [] start
unfolding actions_reading ids_reading
list-counted Known old start count is = rw is refl
list-counted Green old start count is = rw is refl
list-counted Made old start count is = rw is refl

-- where the number is at fault no list is read
pub list-faulty : (list : ChangeList) (s : Stored) (old : Unread) (t : Stored) (new : Unread) (fault : CodecFault) → take_count (2 ^ 32 - 1) old ≡ Err fault → PutsAll (list_reading list) (item_step list) s old t new false
unfolding actions_reading ids_reading
list-faulty Known s old t new fault is list rest read = absurd (let none : actions_reading old ≡ Err fault = rw is refl in never none read)
list-faulty Green s old t new fault is list rest read = absurd (let none : ids_reading old ≡ Err fault = rw is refl in never none read)
list-faulty Made s old t new fault is list rest read = absurd (let none : actions_reading old ≡ Err fault = rw is refl in never none read)

-- ---- one item

-- one reading gives one thing
behind-is : {X : Type 0} {r : Result (X × Unread) CodecFault} {x y : X} {u v : Unread} → r ≡ Ok (x, u) → r ≡ Ok (y, v) → (x ≡ y) × (u ≡ v)
behind-is {x = x} {y = y} {u = u} {v = v} p q = let same : (x, u) ≡ (y, v) = ok-is (x, u) (y, v) (sym p ∙ q) in (ap (λ z. z.0) same, ap (λ z. z.1) same)

-- it was read, and what it makes is told
pub next-put : {A : Type 0} (item : Reading A) (go : Stored → A → Option Stored) (s : Stored) (old new : Unread) (x : A) (t : Held) (E : Type 0) (r : Result Bool E) → item old ≡ Ok (x, new) → IfOk r (Follows (go s x) t)
    → IfOk r (PutsNext item go s old t new)
next-put item go s old new x t E (Ok true) read is = (x, read, is)
next-put item go s old new x t E (Ok false) read is = λ y rest also. ap (go s) (sym (behind-is read also).0) ∙ is
next-put item go s old new x t E (Err e) read is = tt

-- it was not read
pub next-faulty : {A : Type 0} (item : Reading A) (go : Stored → A → Option Stored) (s : Stored) (old new : Unread) (t : Held) (fault : CodecFault) → item old ≡ Err fault → PutsNext item go s old t new false
next-faulty item go s old new t fault none = λ x rest is. absurd (never none is)

-- ---- the parts of a change

-- what is still to be read where nothing was
abbrev pub at_first : List ℕ → Unread
at_first bytes = record { at = 0; bytes = bytes }

-- the bytes are read as this change, part by part
pub record IsReadIn (body : List ℕ) (c : Change) : Type 0 where
  pub one : Unread
  pub two : Unread
  pub three : Unread
  pub four : Unread
  pub stable : take_stable (at_first body) ≡ Ok (c.stable, one)
  pub known : actions_reading one ≡ Ok (c.known, two)
  pub green : ids_reading two ≡ Ok (c.green, three)
  pub made : actions_reading three ≡ Ok (c.made, four)
  pub end : four.bytes ≡ []

value-is : {Y : Type 0} (r : Result Y CodecFault) (y : Y) → read_value r ≡ Some y → r ≡ Ok y
value-is (Ok x) y is = let same : x ≡ y = cc in ap Ok same
value-is (Err fault) y is = absurd cc

read-in : (body : List ℕ) (c : Change) → change_in body ≡ Some c → IsReadIn body c
unfolding change_in change_reading
read-in body c is =
    let all = ended-ok (change_reading (at_first body)) c (value-is (whole change_reading body) c is) in
    let a = go_on-ok (take_stable (at_first body)) _ c all.0 all.1 in
    let b = go_on-ok (actions_reading a.1) _ c all.0 a.3 in
    let d = go_on-ok (ids_reading b.1) _ c all.0 b.3 in
    let e = go_on-ok (actions_reading d.1) _ c all.0 d.3 in
    let same : (change_with a.0 b.0 d.0 e.0, e.1) ≡ (c, all.0) = ok-is (change_with a.0 b.0 d.0 e.0, e.1) (c, all.0) e.3 in
    subst (λ (p : Change × Unread). p.1.bytes ≡ [] → IsReadIn body p.0) same (λ end. record { one = a.1; two = b.1; three = d.1; four = e.1; stable = a.2; known = b.2; green = d.2; made = e.2; end = end }) all.2

-- where no change that is read in the bytes fits, they lead to nothing
pub leads-nowhere : (s : Stored) (body : List ℕ) → ((c : Change) → IsReadIn body c → after_change s c ≡ None) → led_by s body ≡ None
leads-nowhere s body none = at (change_in body) (λ c e. none c (read-in body c e)) where
  at : (found : Option Change) → ((c : Change) → found ≡ Some c → after_change s c ≡ None) → option_and_then (after_change s) found ≡ None
  at None more = refl
  at (Some c) more = more c refl

pub change-is : (body : List ℕ) (c : Change) → IsReadIn body c → change_in body ≡ Some c
unfolding change_in change_reading
change-is body c p = rw (p.stable, p.known, p.green, p.made, p.end) refl

-- what a call takes is within the limits
pub taken-within : {X : Type 0} {Has : X → Type 0} {spelling : X → List ℕ} {reading : Reading X} → IsField Has spelling reading → (old new : Unread) (r : Result X CodecFault) → AreBytes old.bytes → TakesWithMemory (λ x. x) reading old new r → IfOk r Has
taken-within field old new (Ok x) fits taken = (field.found x old new fits taken).has
taken-within field old new (Err fault) fits taken = tt

-- ---- what a record leads to, as far as it was put in

module _ (h : Stored) (body : List ℕ) (start : Unread) (first : start ≡ at_first body) where
  pub unread : (fault : CodecFault) → take_stable start ≡ Err fault → led_by h body ≡ None
  unread fault is = leads-nowhere h body (λ c p. absurd (never is (ap take_stable first ∙ p.stable)))

  module _ (v : Stable) (one : Unread) (stable : take_stable start ≡ Ok (v, one)) where
    stable-is : (c : Change) (p : IsReadIn body c) → (v ≡ c.stable) × (one ≡ p.one)
    stable-is c p = behind-is stable (ap take_stable first ∙ p.stable)

    known-in : (c : Change) (p : IsReadIn body c) → actions_reading one ≡ Ok (c.known, p.two)
    known-in c p = ap actions_reading (stable-is c p).1 ∙ p.known

    pub unknown : (t : Stored) (u : Unread) → PutsAll actions_reading know h one t u false → led_by h body ≡ None
    unknown t u none = leads-nowhere h body (λ c p. unknown_none h c (none c.known p.two (known-in c p)))

    module _ (t : Stored) (two : Unread) (known : PutsAll actions_reading know h one t two true) where
      known-is : (c : Change) (p : IsReadIn body c) → (known.0 ≡ c.known) × (two ≡ p.two)
      known-is c p = behind-is known.1 (known-in c p)

      known-leads : (c : Change) (p : IsReadIn body c) → all_of know (Some h) c.known ≡ Some t
      known-leads c p = sym (ap (all_of know (Some h)) (known-is c p).0) ∙ known.2

      green-in : (c : Change) (p : IsReadIn body c) → ids_reading two ≡ Ok (c.green, p.three)
      green-in c p = ap ids_reading (known-is c p).1 ∙ p.green

      pub ungreen : (u : Stored) (w : Unread) → PutsAll ids_reading green_by_name t two u w false → led_by h body ≡ None
      ungreen u w none = leads-nowhere h body (λ c p. ungreen_none h t c (known-leads c p) (none c.green p.three (green-in c p)))

      module _ (u : Stored) (three : Unread) (green : PutsAll ids_reading green_by_name t two u three true) where
        green-is : (c : Change) (p : IsReadIn body c) → (green.0 ≡ c.green) × (three ≡ p.three)
        green-is c p = behind-is green.1 (green-in c p)

        made-in : (c : Change) (p : IsReadIn body c) → actions_reading three ≡ Ok (c.made, p.four)
        made-in c p = ap actions_reading (green-is c p).1 ∙ p.made

        pub unmade : (w : Stored) (x : Unread) → PutsAll actions_reading make u three w x false → led_by h body ≡ None
        unmade w x none =
            leads-nowhere h body (λ c p. unmade_none h t u c (known-leads c p) (sym (ap (all_of green_by_name (Some t)) (green-is c p).0) ∙ green.2) (none c.made p.four (made-in c p)))

        module _ (w : Stored) (four : Unread) (made : PutsAll actions_reading make u three w four true) where
          pub unended : four.bytes ≢ [] → led_by h body ≡ None
          unended some = leads-nowhere h body (λ c p. absurd (some (ap (λ (x : Unread). x.bytes) (behind-is made.1 (made-in c p)).1 ∙ p.end)))

          -- the change that was read
          abbrev pub change : Change
          change = change_with v known.0 green.0 made.0

          pub is-marked : all_of make (all_of green_by_name (all_of know (Some h) change.known) change.green) change.made ≡ Some w
          is-marked = all_marked h t u w (change_with v known.0 green.0 made.0) known.2 green.2 made.2

          pub fits : after_change h change ≡ with_values v w
          fits = all_fit h t u w (change_with v known.0 green.0 made.0) known.2 green.2 made.2

          pub leads : four.bytes ≡ [] → led_by h body ≡ with_values v w
          leads end =
              ap (option_and_then (after_change h)) (change-is body (change_with v known.0 green.0 made.0) (record { one = one; two = two; three = three; four = four; stable = sym (ap take_stable first) ∙ stable; known = known.1; green = green.1; made = made.1; end = end }))
              ∙ fits
