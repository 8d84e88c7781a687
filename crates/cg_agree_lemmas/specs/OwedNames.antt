-- The replies that a replica owes are those to its own actions behind a number, as far as they aren't green: a step answers exactly
-- those of them that become green in it.
use Rattle.std.proofs.Common.{◌≡◌, ℕ, zero, suc, ◌+◌, ◌-◌, ◌≤◌, max, nat_lt, nat_le, Bool, true, false, cond, ◌&&◌, ◌||◌, List, [], ◌∷◌, ◌++◌, map, filter, refl, sym, ap, ap₂, ◌∙◌, arith, inl, inr, eq-eqb}
use Rattle.std.specs.Prelude.{◌==◌}
use Rattle.std.proofs.lemmas.Bool.{cases_eq, cases_lt, cond-true, cond-false, ne_eqb, lt-ltb, le-ltb, lt-leb, le-leb}
use Rattle.cg_base.specs.declared.action_id.ActionId.{ActionId}
use Rattle.cg_base.specs.Cuts.{index_in, raise}
use Rattle.cg_base.specs.Ids.{same_id, has_name}
use Rattle.cg_base.specs.IdLaws.{same_id-true, same_id-false}
use Rattle.cg_action.specs.declared.action.Action.{Action}
use Rattle.cg_action.specs.declared.entry.DbEntry.{DbEntry}
use Rattle.cg_db.specs.Apply.{Applied, apply}
use Rattle.cg_queue.specs.Queue.{names_of}
use Rattle.cg_report.specs.declared.entry.Reply.{Reply}
use Rattle.cg_client.specs.Marks.{is_first, after_owed, given_to, reply_to}
use Rattle.cg_disk_records.specs.Holds.{run_on, cut_behind, Rising}
use Rattle.cg_disk_records.specs.CutRaiseLaws.{index-same, index-other, rising-raise, behind-rises}
use Rattle.cg_disk_records.specs.RunMarkLaws.{run-head, run-rest}
use Rattle.cg_agree_lemmas.specs.TurnReplies.{owed_behind, replies_in}

abbrev pub own_name : ℕ → ℕ → ActionId
own_name p i = record { creator = p; index = i }

-- a replica's own names behind a number, so many of them
abbrev pub own_names : ℕ → ℕ → ℕ → List ActionId
own_names p from zero = []
own_names p from (suc n) = own_name p (suc from) ∷ own_names p (suc from) n

-- a replica's own name behind a number
abbrev pub is_behind : ℕ → ℕ → ActionId → Bool
is_behind p from id = (id.creator == p) && nat_lt from id.index

pub own-append : (p from n k : ℕ) → own_names p from (n + k) ≡ own_names p from n ++ own_names p (from + n) k
own-append p from zero k =
    let none : 0 + k ≡ k = omega arith in
    let same : from ≡ from + 0 = omega arith in
    ap (own_names p from) none ∙ ap (λ m. own_names p m k) same
own-append p from (suc n) k =
    let one : suc n + k ≡ suc (n + k) = omega arith in
    let next : suc from + n ≡ from + suc n = omega arith in
    ap (own_names p from) one ∙ ap (λ ids. own_name p (suc from) ∷ ids) (own-append p (suc from) n k ∙ ap (λ m. own_names p (suc from) n ++ own_names p m k) next)

-- which own names these are
pub own-named : (p from n i : ℕ) → has_name (own_names p from n) (own_name p i) ≡ (nat_lt from i && nat_le i (from + n))
own-named p from zero i = elim (cases_lt from i) [
  | inl above ↦ sym (ap₂ (λ x y. x && y) (lt-ltb from i above) (lt-leb i (from + 0) (omega arith)))
  | inr below ↦ sym (ap (λ x. x && nat_le i (from + 0)) (le-ltb from i (omega arith)))
]
own-named p from (suc n) i =
    let far : suc from + n ≡ from + suc n = omega arith in
    let rest = own-named p (suc from) n i ∙ ap (λ m. nat_lt (suc from) i && nat_le i m) far in
    elim (cases_eq i (suc from)) [
      | inl here ↦
          ap (λ b. b || has_name (own_names p (suc from) n) (own_name p i)) (same_id-true (own_name p i) (own_name p (suc from)) refl here)
          ∙ sym (ap₂ (λ x y. x && y) (lt-ltb from i (omega arith)) (le-leb i (from + suc n) (omega arith)))
      | inr apart ↦
          ap (λ b. b || has_name (own_names p (suc from) n) (own_name p i)) (same_id-false (own_name p i) (own_name p (suc from)) (inr apart))
          ∙ rest ∙ ap (λ b. b && nat_le i (from + suc n)) (elim (cases_lt (suc from) i) [
            | inl above ↦ lt-ltb (suc from) i above ∙ sym (lt-ltb from i (omega arith))
            | inr below ↦ le-ltb (suc from) i (omega arith) ∙ sym (le-ltb from i (let other : i ≡ suc from → ⊥ = apart in at-most i from (omega arith) other))
          ])
    ]
  where
    at-most : (i from : ℕ) → i ≤ suc from → (i ≡ suc from → ⊥) → i ≤ from
    at-most i from le apart = omega (arith, le, apart)

-- the own names behind another replica's
pub own-other : (p q from n i : ℕ) → (q ≡ p → ⊥) → has_name (own_names p from n) (own_name q i) ≡ false
own-other p q from zero i apart = refl
own-other p q from (suc n) i apart =
    ap (λ b. b || has_name (own_names p (suc from) n) (own_name q i)) (same_id-false (own_name q i) (own_name p (suc from)) (inl apart)) ∙ own-other p q (suc from) n i apart

-- ---- what is owed

-- behind a number, and behind the greens, up to what was created
abbrev pub owed_names : ℕ → ℕ → ℕ → ℕ → List ActionId
owed_names p base green created = own_names p (max green base) (created - max green base)

module _ (p base made : ℕ) (low : base ≤ made) where
  abbrev owed_at : ℕ → List ActionId
  owed_at green = own_names p (max green base) (made - max green base)

  not-first : (from n : ℕ) (id : ActionId) → ((own_name p (suc from)) ≡ id → ⊥) → (is_first (own_names p from n) id ≡ false) × (after_owed (own_names p from n) id ≡ own_names p from n)
  not-first from zero id apart = (refl, refl)
  not-first from (suc n) id apart =
      let other : same_id (own_name p (suc from)) id ≡ false = elim (cases_eq p id.creator) [
        | inl mine ↦ same_id-false (own_name p (suc from)) id (inr (λ e. apart (λ i. record { creator = mine i; index = e i })))
        | inr theirs ↦ same_id-false (own_name p (suc from)) id (inl theirs)
      ] in
      (other, cond-false (same_id (own_name p (suc from)) id) (own_names p (suc from) n) (own_name p (suc from) ∷ own_names p (suc from) n) other)

  first-here : (from n : ℕ) (id : ActionId) → own_name p (suc from) ≡ id → (is_first (own_names p from (suc n)) id ≡ true) × (after_owed (own_names p from (suc n)) id ≡ own_names p (suc from) n)
  first-here from n id here =
      let same : same_id (own_name p (suc from)) id ≡ true = same_id-true (own_name p (suc from)) id (ap (λ (x : ActionId). x.creator) here) (ap (λ (x : ActionId). x.index) here) in
      (same, cond-true (same_id (own_name p (suc from)) id) (own_names p (suc from) n) (own_name p (suc from) ∷ own_names p (suc from) n) same)

  -- the next action of its creator becomes green
  owed-one : (cut : List ActionId) (id : ActionId) → Rising 0 cut → id.index ≡ suc (index_in cut id.creator) → index_in (raise cut id) p ≤ made →
      (is_first (owed_at (index_in cut p)) id ≡ is_behind p base id) × (after_owed (owed_at (index_in cut p)) id ≡ owed_at (index_in (raise cut id) p))
  owed-one cut id rising next most = elim (cases_eq id.creator p) [
    | inr other ↦
        let stays = not-first (max (index_in cut p) base) (made - max (index_in cut p) base) id (λ e. other (sym (ap (λ (x : ActionId). x.creator) e))) in (
          stays.0 ∙ sym (ap (λ b. b && nat_lt base id.index) (ne_eqb id.creator p other)),
          stays.1 ∙ ap owed_at (sym (index-other cut id rising p other)),
        )
    | inl mine ↦
        let green = index_in cut p in
        let at : index_in cut id.creator ≡ index_in cut p = ap (index_in cut) mine in
        let raised : index_in (raise cut id) p ≡ max (index_in cut p) id.index = index-same cut id rising p mine in
        let is : id.index ≡ suc green = omega arith in
        let now : index_in (raise cut id) p ≡ suc green = omega arith in
        elim (cases_lt green base) [
          | inl early ↦
              let from : max green base ≡ base = omega arith in
              let still : max (suc green) base ≡ base = omega arith in
              let stays = not-first base (made - base) id (λ e. (let same : suc base ≡ id.index = ap (λ (x : ActionId). x.index) e in omega arith)) in
              let before : owed_at green ≡ own_names p base (made - base) = ap (λ n. own_names p n (made - n)) from in
              let behind : owed_at (index_in (raise cut id) p) ≡ own_names p base (made - base) = ap owed_at now ∙ ap (λ n. own_names p n (made - n)) still in (
                ap (λ ids. is_first ids id) before ∙ stays.0 ∙ sym (ap₂ (λ x y. x && y) (eq-eqb id.creator p mine) (le-ltb base id.index (omega arith))),
                ap (λ ids. after_owed ids id) before ∙ stays.1 ∙ sym behind,
              )
          | inr late ↦
              let from : max green base ≡ green = omega arith in
              let count : made - green ≡ suc (made - suc green) = omega arith in
              let next_from : max (suc green) base ≡ suc green = omega arith in
              let name : own_name p (suc green) ≡ id = (λ i. record { creator = sym mine i; index = sym is i }) in
              let given = first-here green (made - suc green) id name in
              let before : owed_at green ≡ own_names p green (suc (made - suc green)) = ap (λ n. own_names p n (made - n)) from ∙ ap (own_names p green) count in
              let behind : owed_at (index_in (raise cut id) p) ≡ own_names p (suc green) (made - suc green) = ap owed_at now ∙ ap (λ n. own_names p n (made - n)) next_from in (
                ap (λ ids. is_first ids id) before ∙ given.0 ∙ sym (ap₂ (λ x y. x && y) (eq-eqb id.creator p mine) (lt-ltb base id.index (omega arith))),
                ap (λ ids. after_owed ids id) before ∙ given.1 ∙ sym behind,
              )
        ]
  ]

  reply-names : (owed : List ActionId) (a : Action) (applied : Applied) (rest : List Reply) (ids : List ActionId) → is_first owed a.id ≡ is_behind p base a.id → map (λ r. r.id) rest ≡ filter (is_behind p base) ids →
      map (λ r. r.id) (given_to owed a applied ++ rest) ≡ filter (is_behind p base) (a.id ∷ ids)
  reply-names owed a applied rest ids first same = at (is_first owed a.id) (is_behind p base a.id) first where
    at : (x y : Bool) → x ≡ y → map (λ r. r.id) (cond x (reply_to a applied ∷ []) [] ++ rest) ≡ cond y (a.id ∷ filter (is_behind p base) ids) (filter (is_behind p base) ids)
    at true true e = ap (λ ids. a.id ∷ ids) same
    at false false e = same
    at true false e = absurd (let clash : true ≡ false = e in cc)
    at false true e = absurd (let clash : false ≡ true = e in cc)

  -- actions become green, each the next of its creator
  pub owed-on : (actions : List Action) (cut : List ActionId) (db : List DbEntry) → Rising 0 cut → run_on cut (names_of actions) ≡ true → index_in (cut_behind cut (names_of actions)) p ≤ made →
      (owed_behind (owed_at (index_in cut p)) actions ≡ owed_at (index_in (cut_behind cut (names_of actions)) p))
      × (map (λ r. r.id) (replies_in (owed_at (index_in cut p)) db actions) ≡ filter (is_behind p base) (names_of actions))
  owed-on [] cut db rising run most = (refl, refl)
  owed-on (a ∷ actions) cut db rising run most =
      let up = rising-raise cut a.id rising in
      let next = run-rest cut a.id (names_of actions) run in
      let grows : index_in (raise cut a.id) p ≤ index_in (cut_behind (raise cut a.id) (names_of actions)) p = behind-rises (raise cut a.id) (names_of actions) p up in
      let one = owed-one cut a.id rising (run-head cut a.id (names_of actions) run) (omega arith) in
      let rest = owed-on actions (raise cut a.id) (apply db a).db up next most in (
        ap (λ o. owed_behind o actions) one.1 ∙ rest.0,
        reply-names (owed_at (index_in cut p)) a (apply db a) (replies_in (after_owed (owed_at (index_in cut p)) a.id) (apply db a).db actions) (names_of actions) one.0
            (ap (λ o. map (λ r. r.id) (replies_in o (apply db a).db actions)) one.1 ∙ rest.1),
      )
