-- What holds of a replica holds of a checkpoint whose parts agree, and is kept by each change that fits.
use Rattle.std.proofs.Common.{◌⊎◌, ◌≡◌, ℕ, zero, suc, ◌+◌, ◌-◌, ◌≤◌, ◌≢◌, List, [], ◌∷◌, ◌++◌, length, max, map, cond, true, false, not, ◌&&◌, Option, Some, None, refl, sym, ap, ap₂, ◌∙◌, subst, arith, inl, inr, eqb-true, nat_le, leb-true}
use Rattle.std.specs.Prelude.{◌==◌, nat_eq, option_and_then}
use Rattle.std.specs.Cmp.Lexicographic.{pointwise}
use Rattle.std.specs.List.{list_all}
use Rattle.std.proofs.lemmas.Bool.{cases_eq, cases_order, cases_Bool, eq-eqb, ne_eqb, and_parts, and_from, not-true}
use Rattle.std.proofs.lemmas.Option.{none-some, same_Some}
use Rattle.cg_base.specs.declared.action_id.ActionId.{ActionId}
use Rattle.cg_base.specs.Cuts.{index_in, raise, creators_in}
use Rattle.cg_base.specs.Ids.{id_before}
use Rattle.cg_base.specs.Lists.{count_up, above_up_to, Each}
use Rattle.cg_base.specs.ListLaws.{length-count_up}
use Rattle.cg_base.specs.Sets.{IsId, Ascends, has}
use Rattle.cg_base.specs.SetLaws.{each-replica}
use Rattle.cg_action.specs.declared.action.Action.{Action}
use Rattle.cg_action.specs.ActionLimits.{IsAction}
use Rattle.cg_members.specs.declared.server.Server.{Server}
use Rattle.cg_members.specs.Servers.{is_among}
use Rattle.cg_members.specs.Laws.{NoLineAbove}
use Rattle.cg_queue.specs.Queue.{names_of, green_count}
use Rattle.cg_records.specs.declared.stable.Stable.{Stable}
use Rattle.cg_client.specs.Replica.{created}
use Rattle.cg_disk_records.specs.Stored.{Stored, whiten}
use Rattle.cg_disk_records.specs.declared.change.Change.{Change}
use Rattle.cg_disk_records.specs.Limits.{IsStored}
use Rattle.cg_disk_records.specs.Following.{fits_known, know, green_by_name, make, all_of, are_yellow, put_values, with_values, after_change}
use Rattle.cg_disk_records.specs.Agreeing.{Agrees, indexes_of, count_to, counts_up, is_by_name, is_present}
use Rattle.cg_disk_records.specs.Holds.{run_on, ascend, Rising, CountsTo, Holds}
use Rattle.cg_disk_records.specs.CutRaiseLaws.{rising-raise, index-same, index-other}
use Rattle.cg_disk_records.specs.RunMarkLaws.{run-from}
use Rattle.cg_disk_records.specs.HeldLaws.{are_of}
use Rattle.cg_disk_records.specs.ValueLaws.{one-list, one-number}
use Rattle.cg_disk_records.specs.HoldsMarkLaws.{known_by, holds-known, holds-green}
use Rattle.cg_disk_records.specs.HoldsValueLaws.{holds-values, holds-made, holds-whiten}
use Rattle.cg_disk_records.specs.KnownLaws.{fits-next, none-all, greened-from}
use Rattle.cg_disk_records.proofs.Settling.{mine-indexes}

-- ---- a change that fits

abbrev KeepsHolds : {A : Type 0} → (Stored → A → Option Stored) → Type 0
KeepsHolds {A} go = (x y : Stored) (item : A) → Holds x → go x item ≡ Some y → Holds y

all-kept : {A : Type 0} (go : Stored → A → Option Stored) → KeepsHolds go → (items : List A) (x y : Stored) → Holds x → all_of go (Some x) items ≡ Some y → Holds y
all-kept go keeps [] x y is e = subst Holds (same_Some x y e) is
all-kept go keeps (item ∷ items) x y is e = at (go x item) refl e (λ z z_holds rest. all-kept go keeps items z y z_holds rest) where
  at : (o : Option Stored) → go x item ≡ o → all_of go o items ≡ Some y → ((z : Stored) → Holds z → all_of go (Some z) items ≡ Some y → Holds y) → Holds y
  at None f rest more = absurd (none-some y (sym (none-all go items) ∙ rest))
  at (Some z) f rest more = more z (keeps x z item is f) rest

know-kept : KeepsHolds know
know-kept x y a is e = elim (cases_Bool (fits_known x a)) [
  | inl fits ↦ subst Holds (same_Some (known_by x a) y (sym (ap (λ b. cond b (Some (known_by x a)) None) fits) ∙ e)) (holds-known x is a (fits-next x a fits))
  | inr none ↦ absurd (none-some y (sym (ap (λ b. cond b (Some (known_by x a)) None) none) ∙ e))
]

green-kept : KeepsHolds green_by_name
green-kept x y id is e = let one = greened-from x id y e in subst Holds (sym one.is) (holds-green x is one.action one.next)

make-kept : KeepsHolds make
make-kept x y a is e =
    let made : Stored = record x { own = x.own ++ a ∷ [] } in
    let test = (a.id.creator == x.id) && (a.id.index == suc (created x)) in
    elim (cases_Bool test) [
      | inl fits ↦
          let parts = and_parts (a.id.creator == x.id) (a.id.index == suc (created x)) fits in
          subst Holds (same_Some made y (sym (ap (λ b. cond b (Some made) None) fits) ∙ e))
          (holds-made x a x.owed (eqb-true a.id.creator x.id parts.0) (eqb-true a.id.index (suc (created x)) parts.1) is)
      | inr none ↦ absurd (none-some y (sym (ap (λ b. cond b (Some made) None) none) ∙ e))
    ]

values-kept : (v : Stable) (x y : Stored) → Holds x → with_values v x ≡ Some y → Holds y
values-kept v x y is e =
    let test = are_yellow x.queue v.yellow.list && (v.created == created x) in
    let new = whiten (put_values x v) in
    elim (cases_Bool test) [
      | inl fits ↦
          let parts = and_parts (are_yellow x.queue v.yellow.list) (v.created == created x) fits in
          subst Holds (same_Some new y (sym (ap (λ b. cond b (Some new) None) fits) ∙ e))
          (holds-whiten (put_values x v) (holds-values x v.yellow.list v.yellow.valid v.prim v.attempt_index v.vulnerable x.buffered parts.0 is))
      | inr none ↦ absurd (none-some y (sym (ap (λ b. cond b (Some new) None) none) ∙ e))
    ]

-- one part behind another
then-kept : (f : Stored → Option Stored) → ((x y : Stored) → Holds x → f x ≡ Some y → Holds y) → (o : Option Stored) (y : Stored) →
    ((x : Stored) → o ≡ Some x → Holds x) → option_and_then f o ≡ Some y → Holds y
then-kept f keeps None y before e = absurd (none-some y e)
then-kept f keeps (Some x) y before e = keeps x y (before x refl) e

rest-kept : {A : Type 0} (go : Stored → A → Option Stored) → KeepsHolds go → (items : List A) (o : Option Stored) (y : Stored) →
    ((x : Stored) → o ≡ Some x → Holds x) → all_of go o items ≡ Some y → Holds y
rest-kept go keeps items None y before e = absurd (none-some y (sym (none-all go items) ∙ e))
rest-kept go keeps items (Some x) y before e = all-kept go keeps items x y (before x refl) e

-- what a change marks and makes, before its values and the white count
pub holds-marked : (s : Stored) (c : Change) (t : Stored) → Holds s → all_of make (all_of green_by_name (all_of know (Some s) c.known) c.green) c.made ≡ Some t → Holds t
holds-marked s c t is e =
    let known = all_of know (Some s) c.known in
    let green = all_of green_by_name known c.green in
    rest-kept make make-kept c.made green t
    (λ y g. rest-kept green_by_name green-kept c.green known y (λ z h. all-kept know know-kept c.known s z is h) g) e

pub holds-changed : (s : Stored) (c : Change) (t : Stored) → Holds s → after_change s c ≡ Some t → Holds t
unfolding after_change
holds-changed s c t is e =
    let made = all_of make (all_of green_by_name (all_of know (Some s) c.known) c.green) c.made in
    then-kept (with_values c.stable) (values-kept c.stable) made t (λ x f. holds-marked s c x is f) e

-- ---- a checkpoint whose parts agree

rising-from : (cut : List ActionId) (low : ℕ) → Ascends low (creators_in cut) → Rising low cut
rising-from [] low up = tt
rising-from (top ∷ cut) low up = (up.0, rising-from cut (suc top.creator) up.2)

rising-lower : (cut : List ActionId) → Rising 1 cut → Rising 0 cut
rising-lower [] up = tt
rising-lower (top ∷ cut) up = (omega arith, up.1)

-- an action of a number that names no replica isn't among them
no-indexes : (actions : List Action) (p : ℕ) → Each IsAction actions → (IsId p → ⊥) → indexes_of actions p ≡ []
no-indexes [] p each unnamed = refl
no-indexes (a ∷ actions) p each unnamed =
    rw (ne_eqb a.id.creator p (λ same. unnamed (subst IsId same (creator-is a each.0)))) (no-indexes actions p each.1 unnamed)
  where
    creator-is : (a : Action) → IsAction a → IsId a.id.creator
    creator-is a is = is.id.creator

is-id : (p : ℕ) → IsId p ⊎ (IsId p → ⊥)
is-id zero = inr (λ id. let low : 1 ≤ 0 = id.0 in omega arith)
is-id (suc n) = elim (cases_order n 31) [
  | inl same ↦ inl (omega arith, omega arith)
  | inr apart ↦ elim apart [
    | inl lt ↦ inl (omega arith, omega arith)
    | inr gt ↦ inr (λ id. let high : suc n ≤ 32 = id.1 in omega arith)
  ]
]

counts-up-to : (n low last : ℕ) → low + n ≡ last → CountsTo last (count_up (suc low) n)
counts-up-to zero low last e = tt
counts-up-to (suc n) low last e = (omega arith, (ap (λ k. suc low + k) (length-count_up (suc (suc low)) n) ∙ (let whole : suc low + n ≡ last = omega arith in whole)), counts-up-to n (suc low) last (omega arith))

counts-from : (last : ℕ) (ns : List ℕ) → count_to last ns ≡ true → CountsTo last ns
counts-from last ns e =
    let low = last - length ns in
    subst (CountsTo last) (sym (one-list nat_eq one-number ns (above_up_to low last) e))
    (counts-up-to (last - low) low last (omega arith))

-- of each creator the indexes count up from the cut
record CountsUp (cut : List ActionId) (actions : List Action) (p : ℕ) : Type 0 where
  pub high : ℕ
  pub up : indexes_of actions p ≡ above_up_to (index_in cut p) high

abbrev head_or : ℕ → List ℕ → ℕ
head_or d [] = d
head_or d (n ∷ ns) = n

abbrev tail_from : List ℕ → List ℕ
tail_from [] = []
tail_from (n ∷ ns) = ns

head-of : (n m from : ℕ) (ns : List ℕ) → m ∷ ns ≡ count_up from n → m ≡ from
head-of zero m from ns e = absurd (let clash : suc (length ns) ≡ 0 = ap length e in omega arith)
head-of (suc n) m from ns e = ap (head_or m) e

tail-of : (n m from : ℕ) (ns : List ℕ) → m ∷ ns ≡ count_up from n → ns ≡ count_up (suc from) (n - 1)
tail-of zero m from ns e = absurd (let clash : suc (length ns) ≡ 0 = ap length e in omega arith)
tail-of (suc n) m from ns e = ap tail_from e ∙ ap (count_up (suc from)) (let many : n ≡ suc n - 1 = omega arith in many)

run-up : (actions : List Action) (cut : List ActionId) → Rising 0 cut → ((p : ℕ) → CountsUp cut actions p) → run_on cut (names_of actions) ≡ true
run-up [] cut rising each = refl
run-up (a ∷ actions) cut rising each =
    let p = a.id.creator in
    let here : a.id.index ∷ indexes_of actions p ≡ count_up (suc (index_in cut p)) ((each p).high - index_in cut p) =
    sym (first a actions) ∙ (each p).up in
    let next : a.id.index ≡ suc (index_in cut p) = head-of ((each p).high - index_in cut p) a.id.index (suc (index_in cut p)) (indexes_of actions p) here in
    run-from cut a.id (names_of actions) next (run-up actions (raise cut a.id) (rising-raise cut a.id rising) (λ q. elim (cases_eq p q) [
      | inl same ↦
          let top : index_in (raise cut a.id) q ≡ max (index_in cut q) a.id.index = index-same cut a.id rising q same in
          let at_q : index_in cut p ≡ index_in cut q = ap (index_in cut) same in
          let reached : index_in (raise cut a.id) q ≡ suc (index_in cut p) = omega arith in
          record {
            high = (each p).high;
            up = ap (indexes_of actions) (sym same) ∙ tail-of ((each p).high - index_in cut p) a.id.index (suc (index_in cut p)) (indexes_of actions p) here
                ∙ ap₂ count_up (ap suc (sym reached)) (let many : ((each p).high - index_in cut p) - 1 ≡ (each p).high - index_in (raise cut a.id) q = omega arith in many);
          }
      | inr apart ↦ record {
        high = (each q).high;
        up = other a actions q apart ∙ (each q).up ∙ ap (λ low. above_up_to low (each q).high) (sym (index-other cut a.id rising q apart));
      }
    ]))
  where
    first : (a : Action) (actions : List Action) → indexes_of (a ∷ actions) a.id.creator ≡ a.id.index ∷ indexes_of actions a.id.creator
    first a actions = rw (eq-eqb a.id.creator a.id.creator refl) refl

    other : (a : Action) (actions : List Action) (q : ℕ) → a.id.creator ≢ q → indexes_of actions q ≡ indexes_of (a ∷ actions) q
    other a actions q apart = rw (ne_eqb a.id.creator q apart) refl

none-above : (low : ℕ) → [] ≡ above_up_to low low
none-above low = ap (count_up (suc low)) (let none : 0 ≡ low - low = omega arith in none)

up-names : (reds : List Action) → is_by_name reds ≡ true → ascend (names_of reds) ≡ true
up-names [] up = refl
up-names (a ∷ []) up = refl
up-names (a ∷ b ∷ rest) up =
    let parts = and_parts (id_before a.id b.id) (is_by_name (b ∷ rest)) up in
    and_from (id_before a.id b.id) (ascend (names_of (b ∷ rest))) parts.0 (up-names (b ∷ rest) parts.1)

other-none : (me p : ℕ) (own : List Action) → are_of me own ≡ true → me ≢ p → indexes_of own p ≡ []
other-none me p [] mine apart = refl
other-none me p (a ∷ own) mine apart =
    let parts = and_parts (a.id.creator == me) (are_of me own) mine in
    rw (ne_eqb a.id.creator p (λ e. apart (sym (eqb-true a.id.creator me parts.0) ∙ e))) (other-none me p own parts.1 apart)

present-lines : (count : ℕ) (left : List ℕ) (servers : List Server) → list_all (is_present count left) servers ≡ true → NoLineAbove count servers
present-lines count left [] all = tt
present-lines count left (s ∷ servers) all =
    let parts = and_parts (is_present count left s) (list_all (is_present count left) servers) all in
    (leb-true s.line count (and_parts (nat_le s.line count) (not (has left s.id)) parts.0).0, present-lines count left servers parts.1)

present-apart : (count : ℕ) (left : List ℕ) (servers : List Server) (p : ℕ) → list_all (is_present count left) servers ≡ true → is_among servers p ≡ true → has left p ≡ false
present-apart count left [] p all among = absurd (let clash : false ≡ true = among in cc)
present-apart count left (s ∷ servers) p all among =
    let parts = and_parts (is_present count left s) (list_all (is_present count left) servers) all in
    elim (cases_eq s.id p) [
      | inl same ↦ ap (has left) (sym same) ∙ not-true (has left s.id) (and_parts (nat_le s.line count) (not (has left s.id)) parts.0).1
      | inr apart ↦ present-apart count left servers p parts.1 (rest apart among)
    ]
  where
    rest : s.id ≢ p → is_among (s ∷ servers) p ≡ true → is_among servers p ≡ true
    rest apart e = rw (ne_eqb s.id p apart) at e

pub holds-opened : (s : Stored) → Agrees s → IsStored s → Holds s
holds-opened s agrees is =
    let q = s.queue in
    let rising = rising-lower q.green_cut (rising-from q.green_cut 1 is.queue.green_cut.ascends) in
    let rising_red = rising-lower q.red_cut (rising-from q.red_cut 1 is.queue.red_cut.ascends) in
    let own = and_parts (are_of s.id s.own) (pointwise nat_eq (map (λ (a : Action). a.id.index) s.own) (above_up_to (index_in q.red_cut s.id) (created s))) agrees.own in
    record {
      rising = rising;
      greens = λ p. elim (is-id p) [
        | inl id ↦ counts-from (index_in q.green_cut p) (indexes_of q.greens p) (both p id).0
        | inr unnamed ↦ subst (CountsTo (index_in q.green_cut p)) (sym (no-indexes q.greens p is.queue.greens.each unnamed)) tt
      ];
      count = agrees.count;
      red_cut = agrees.red_cut;
      reds = run-up q.reds q.green_cut rising (λ p. elim (is-id p) [
        | inl id ↦ record { high = index_in q.red_cut p; up = one-list nat_eq one-number (indexes_of q.reds p) (above_up_to (index_in q.green_cut p) (index_in q.red_cut p)) (both p id).1 }
        | inr unnamed ↦ record { high = index_in q.green_cut p; up = no-indexes q.reds p is.queue.reds.each unnamed ∙ none-above (index_in q.green_cut p) }
      ]);
      by_name = up-names q.reds agrees.by_name;
      own = run-up s.own q.red_cut rising_red (λ p. elim (cases_eq s.id p) [
        | inl same ↦ record {
          high = created s;
          up = ap (indexes_of s.own) (sym same) ∙ sym (mine-indexes s.id s.own own.0)
              ∙ one-list nat_eq one-number (map (λ (a : Action). a.id.index) s.own) (above_up_to (index_in q.red_cut s.id) (created s)) own.1
              ∙ ap (λ r. above_up_to (index_in q.red_cut r) (created s)) same;
        }
        | inr apart ↦ record { high = index_in q.red_cut p; up = other-none s.id p s.own own.0 apart ∙ none-above (index_in q.red_cut p) }
      ]);
      mine = own.0;
      yellow = agrees.yellow;
      members = record {
        apart = λ p among. present-apart (green_count q) s.members.left s.members.servers p agrees.members among;
        lines = present-lines (green_count q) s.members.left s.members.servers agrees.members;
      };
    }
  where
    both : (p : ℕ) → IsId p → (count_to (index_in s.queue.green_cut p) (indexes_of s.queue.greens p) ≡ true)
        × (pointwise nat_eq (indexes_of s.queue.reds p) (above_up_to (index_in s.queue.green_cut p) (index_in s.queue.red_cut p)) ≡ true)
    both p id =
        and_parts (count_to (index_in s.queue.green_cut p) (indexes_of s.queue.greens p))
        (pointwise nat_eq (indexes_of s.queue.reds p) (above_up_to (index_in s.queue.green_cut p) (index_in s.queue.red_cut p)))
        (each-replica (counts_up s.queue) p agrees.each id)
