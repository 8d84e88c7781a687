-- What is kept comes of a map of made actions: at first, after the next action of a creator, and after a join. So what is
-- known decides all that is kept, and the laws of joins are those of cuts.
use Rattle.std.proofs.Common.{◌≡◌, ℕ, suc, ◌^◌, ◌<◌, ◌≤◌, List, [], cond, eqb, max, inl, inr, refl, sym, ap, subst, ◌∙◌, arith}
use Rattle.std.specs.Prelude.{None, pos, ◌+ℤ◌}
use Rattle.std.proofs.Math.IntN.{+ℤ_idl}
use Rattle.std.proofs.lemmas.Bool.{cases_eq, cases_lt, eq-eqb, ne_eqb, lt-ltb, le-ltb}
use Rattle.cg_base.specs.declared.action_id.ActionId.{ActionId}
use Rattle.cg_base.specs.Replicas.{every_replica}
use Rattle.cg_base.specs.Calls.{greatest_cut}
use Rattle.cg_base.specs.Sets.{IsId}
use Rattle.cg_base.specs.Cuts.{index_in, raise}
use Rattle.cg_base.specs.CutLimits.{IsCut}
use Rattle.cg_base.specs.CutLaws.{index_in-raise, IsCut-raise}
use Rattle.cg_base.specs.IdLaws.{same_name}
use Rattle.cg_action.specs.declared.action.Action.{Action}
use Rattle.cg_relaxed.specs.Writes.{later, added, written, value_in}
use Rattle.cg_relaxed.specs.Cells.{sum_of, last_write, cell_of}
use Rattle.cg_relaxed.specs.Relaxed.{RelaxedView, nothing_known, with_action, joined, cell_in, first_of, named, IsMade, AreMade, IsOf}
use Rattle.cg_relaxed.specs.Laws.{OrderDoesNotMatter, StaysOfOneMap, KnownDecides, JoinLaws}
use Rattle.cg_relaxed.proofs.Later.{later-commutes, Of, Of-more, IsOfAction, written-by}
use Rattle.cg_relaxed.proofs.Cuts.{IsCut-greatest, index_in-greatest, greatest-commutes, greatest-associates, greatest-repeats}
use Rattle.cg_relaxed.proofs.Known.{name, sum-more, swapped-writes, swapped-sums, IsBy}
use Rattle.cg_relaxed.proofs.Union.{IsNextOf, of-union, of-next, sums-of}

-- ---- order

pub order-does-not-matter : OrderDoesNotMatter
order-does-not-matter front back a b key apart =
    let same : later (written key a) (written key b) ≡ later (written key b) (written key a) =
    later-commutes (IsOfAction a.id.index a.id.creator) (IsOfAction b.id.index b.id.creator) (written key a) (written key b)
    (written-by key a) (written-by key b)
    (λ s t of_a of_b index creator.
    apart (same_name a.id b.id (sym of_a.of_creator ∙ creator ∙ of_b.of_creator) (sym of_a.of_index ∙ index ∙ of_b.of_index))) in
    let writes = swapped-writes key front back a b same in
    let sums = swapped-sums key front back a b in
    λ i. record { value = value_in (writes i); sum = sums i }

-- ---- at first

no-writes : (key : List ℕ) (made : ActionId → Action) → None ≡ last_write key (named made [])
unfolding every_replica
no-writes key made = refl

of-nothing : (made : ActionId → Action) → IsOf made nothing_known
of-nothing made = record {
  cut = record { ascends = tt; named = tt };
  few = λ p. omega arith;
  by_name = λ id some small. absurd (omega arith);
  sums = λ key p. refl;
  registers = λ key. no-writes key made;
}

-- ---- the next action

pub raised-index : (cut : List ActionId) (id : ActionId) (p : ℕ) → IsCut cut → id.index ≡ suc (index_in cut id.creator) →
    index_in (raise cut id) p ≡ cond (eqb id.creator p) id.index (index_in cut p)
raised-index cut id p is_cut next = index_in-raise cut id p is_cut ∙ elim (cases_eq id.creator p) [
  | inl here ↦
      let less : max (index_in cut p) id.index ≡ id.index =
      ap (λ q. max (index_in cut q) id.index) (sym here) ∙ omega arith in
      ap (λ k. cond (eqb id.creator p) k (index_in cut p)) less
  | inr apart ↦ rw (ne_eqb id.creator p apart)
]

is-next : (cut : List ActionId) (id : ActionId) → IsCut cut → id.index ≡ suc (index_in cut id.creator) →
    IsNextOf cut (raise cut id) id.creator
is-next cut id is_cut next = record {
  here = raised-index cut id id.creator is_cut next ∙ rw (eq-eqb id.creator id.creator refl) next;
  others = λ p apart. raised-index cut id p is_cut next ∙ rw (ne_eqb id.creator p (λ e. apart (sym e)));
}

-- the action is the one that stands under the next name
stands : (made : ActionId → Action) (a : Action) (n : ℕ) → IsMade made a → a.id.index ≡ n → made (name a.id.creator n) ≡ a
stands made a n is index = ap (λ k. made (name a.id.creator k)) (sym index) ∙ is

module _ (made : ActionId → Action) (r : RelaxedView) (a : Action) (of : IsOf made r) (is : IsMade made a) (id : IsId a.id.creator)
    (next : a.id.index ≡ suc (index_in r.known a.id.creator)) (small : a.id.index < 2 ^ 40) where
  next-few : (p : ℕ) → index_in (raise r.known a.id) p < 2 ^ 40
  next-few p = rw (raised-index r.known a.id p of.cut next) (elim (cases_eq a.id.creator p) [
    | inl here ↦ rw (eq-eqb a.id.creator p here) small
    | inr apart ↦ rw (ne_eqb a.id.creator p apart) (of.few p)
  ])

  next-by-name : AreMade made (raise r.known a.id)
  next-by-name x some less = elim (cases_eq a.id.creator x.creator) [
    | inl here ↦
        let last : index_in (raise r.known a.id) x.creator ≡ a.id.index =
        raised-index r.known a.id x.creator of.cut next ∙ rw (eq-eqb a.id.creator x.creator here) in
        let before : index_in r.known x.creator ≡ index_in r.known a.id.creator = ap (λ p. index_in r.known p) (sym here) in
        elim (cases_eq x.index a.id.index) [
          | inl new ↦
              let same : x ≡ a.id = same_name x a.id (sym here) new in
              ap (λ y. (made y).id) same ∙ ap (λ b. b.id) is ∙ sym same
          | inr old ↦ of.by_name x some (omega arith)
        ]
    | inr apart ↦
        let same : index_in (raise r.known a.id) x.creator ≡ index_in r.known x.creator =
        raised-index r.known a.id x.creator of.cut next ∙ rw (ne_eqb a.id.creator x.creator apart) in
        of.by_name x some (omega arith)
  ]

  next-sums : (key : List ℕ) (p : ℕ) → (with_action r a).sums key p ≡ sum_of key (first_of made p (index_in (raise r.known a.id) p))
  next-sums key p = rw (raised-index r.known a.id p of.cut next) (elim (cases_eq p a.id.creator) [
    | inl here ↦ rw (eq-eqb p a.id.creator here, eq-eqb a.id.creator p (sym here)) (
        ap (λ n. n +ℤ added key a) (of.sums key p)
        ∙ ap (λ b. sum_of key (first_of made p (index_in r.known p)) +ℤ added key b) (sym (at-place key p here))
        ∙ sym (sum-more key made p (index_in r.known p))
        ∙ ap (λ k. sum_of key (first_of made p k)) (ap (λ q. suc (index_in r.known q)) here ∙ sym next))
    | inr apart ↦ rw (ne_eqb p a.id.creator apart, ne_eqb a.id.creator p (λ e. apart (sym e))) (of.sums key p)
  ])
    where
      at-place : (key : List ℕ) (p : ℕ) → p ≡ a.id.creator → made (name p (suc (index_in r.known p))) ≡ a
      at-place key p here =
          ap (λ q. made (name q (suc (index_in r.known q)))) here ∙ stands made a (suc (index_in r.known a.id.creator)) is next

  next-registers : (key : List ℕ) → (with_action r a).registers key ≡ last_write key (named made (raise r.known a.id))
  unfolding every_replica
  next-registers key =
      let new : made (name a.id.creator (suc (index_in r.known a.id.creator))) ≡ a = stands made a (suc (index_in r.known a.id.creator)) is next in
      let by : Of (IsBy a.id.creator) (written key a) =
      Of-more (IsOfAction a.id.index a.id.creator) (IsBy a.id.creator) (written key a) (λ s of_a. of_a.of_creator) (written-by key a) in
      let above : 1 ≤ a.id.creator = id.0 in
      let within : a.id.creator ≤ 32 = id.1 in
      ap (λ w. later w (written key a)) (of.registers key)
      ∙ ap (λ b. later (last_write key (named made r.known)) (written key b)) (sym new)
      ∙ of-next key made r.known (raise r.known a.id) a.id.creator 1 32 of.by_name (is-next r.known a.id of.cut next) above (omega arith)
      (subst (λ b. Of (IsBy a.id.creator) (written key b)) (sym new) by)

  pub of-with-action : IsOf made (with_action r a)
  of-with-action = record {
    cut = IsCut-raise r.known a.id id (omega arith) of.cut;
    few = next-few;
    by_name = next-by-name;
    sums = next-sums;
    registers = next-registers;
  }

-- ---- joins

module _ (made : ActionId → Action) (r o : RelaxedView) (one : IsOf made r) (other : IsOf made o) where
  most : (p : ℕ) → index_in (greatest_cut r.known o.known) p ≡ max (index_in r.known p) (index_in o.known p)
  most p = index_in-greatest r.known o.known p one.cut other.cut

  union-few : (p : ℕ) → index_in (greatest_cut r.known o.known) p < 2 ^ 40
  union-few p =
      let greatest = most p in
      let first = one.few p in
      let second = other.few p in
      omega arith

  union-by-name : AreMade made (greatest_cut r.known o.known)
  union-by-name id some less =
      let greatest = most id.creator in
      elim (cases_lt (index_in r.known id.creator) id.index) [
        | inl above ↦ other.by_name id some (omega arith)
        | inr within ↦ one.by_name id some (omega arith)
      ]

  union-sums : (key : List ℕ) (p : ℕ) → (joined r o).sums key p ≡ sum_of key (first_of made p (index_in (greatest_cut r.known o.known) p))
  union-sums key p = elim (cases_lt (index_in r.known p) (index_in o.known p)) [
    | inl less ↦
        let greatest : index_in o.known p ≡ index_in (greatest_cut r.known o.known) p = let k = most p in omega arith in
        rw (lt-ltb (index_in r.known p) (index_in o.known p) less) (other.sums key p ∙ ap (λ k. sum_of key (first_of made p k)) greatest)
    | inr no_less ↦
        let greatest : index_in r.known p ≡ index_in (greatest_cut r.known o.known) p = let k = most p in omega arith in
        rw (le-ltb (index_in r.known p) (index_in o.known p) no_less) (one.sums key p ∙ ap (λ k. sum_of key (first_of made p k)) greatest)
  ]

  union-registers : (key : List ℕ) → (joined r o).registers key ≡ last_write key (named made (greatest_cut r.known o.known))
  unfolding every_replica
  union-registers key =
      ap (λ w. later w (o.registers key)) (one.registers key) ∙ ap (λ w. later (last_write key (named made r.known)) w) (other.registers key)
      ∙ of-union key made r.known o.known (greatest_cut r.known o.known) 1 32 one.by_name other.by_name most

  pub of-joined : IsOf made (joined r o)
  of-joined = record {
    cut = IsCut-greatest r.known o.known one.cut other.cut;
    few = union-few;
    by_name = union-by-name;
    sums = union-sums;
    registers = union-registers;
  }

-- ---- what is known decides

same-of-known : (made : ActionId → Action) (r o : RelaxedView) → IsOf made r → IsOf made o → r.known ≡ o.known → r ≡ o
same-of-known made r o one other known =
    let sums : (key : List ℕ) (p : ℕ) → r.sums key p ≡ o.sums key p =
    λ key p. one.sums key p ∙ ap (λ cut. sum_of key (first_of made p (index_in cut p))) known ∙ sym (other.sums key p) in
    let registers : (key : List ℕ) → r.registers key ≡ o.registers key =
    λ key. one.registers key ∙ ap (λ cut. last_write key (named made cut)) known ∙ sym (other.registers key) in
    λ i. record { known = known i; sums = λ key p. sums key p i; registers = λ key. registers key i }

cell-of-known : (made : ActionId → Action) (r : RelaxedView) (key : List ℕ) → IsOf made r → cell_in r key ≡ cell_of (named made r.known) key
cell-of-known made r key of =
    let sums = sums-of key (λ p. first_of made p (index_in r.known p)) (r.sums key) (pos 0) every_replica (of.sums key)
    ∙ +ℤ_idl (sum_of key (named made r.known)) in
    let writes = of.registers key in
    λ i. record { value = value_in (writes i); sum = sums i }

pub stays-of-one-map : StaysOfOneMap
stays-of-one-map = record {
  first = of-nothing;
  next = λ made r a of is id next small. of-with-action made r a of is id next small;
  union = λ made r o one other. of-joined made r o one other;
}

pub known-decides : KnownDecides
known-decides = record { read = cell-of-known; same = same-of-known }

pub join-laws : JoinLaws
join-laws = record {
  read = λ made r o key one other. cell-of-known made (joined r o) key (of-joined made r o one other);
  commutative = λ made r o one other.
      same-of-known made (joined r o) (joined o r) (of-joined made r o one other) (of-joined made o r other one)
      (greatest-commutes r.known o.known one.cut other.cut);
  associative = λ made r o q one other third.
      let right = of-joined made o q other third in
      let left = of-joined made r o one other in
      same-of-known made (joined r (joined o q)) (joined (joined r o) q) (of-joined made r (joined o q) one right)
      (of-joined made (joined r o) q left third) (greatest-associates r.known o.known q.known one.cut other.cut third.cut);
  idempotent = λ made r one.
      same-of-known made (joined r r) r (of-joined made r r one one) one (greatest-repeats r.known one.cut);
}
