-- Actions that lead to a cut: the indexes of each creator's count up, from the cut in front of them.
use Rattle.std.proofs.Common.{◌≡◌, ◌≢◌, ℕ, suc, ◌+◌, ◌-◌, ◌^◌, ◌<◌, ◌≤◌, max, true, cond, eqb, leb, List, [], ◌∷◌, length, map, filter, fold, refl, sym, ap, subst, ◌∙◌, arith, inl, inr}
use Rattle.std.specs.Prelude.{◌==◌, nat_eq, IsTrue}
use Rattle.std.specs.List.{list_all}
use Rattle.std.specs.Cmp.Lexicographic.{pointwise, same_text}
use Rattle.std.proofs.lemmas.Bool.{cases_eq, cases_order, cases_lt, eq-eqb, ne_eqb, le-leb, lt-leb, and_parts}
use Rattle.cg_base.specs.declared.action_id.ActionId.{ActionId}
use Rattle.cg_base.specs.Sets.{IsId, Ascends}
use Rattle.cg_base.specs.Replicas.{every_replica}
use Rattle.cg_base.specs.Lists.{count_up, above_up_to, Each}
use Rattle.cg_base.specs.ListLaws.{length-count_up}
use Rattle.cg_base.specs.Cuts.{index_in, raise, creators_in}
use Rattle.cg_base.specs.CutLimits.{IsCut, NameActions}
use Rattle.cg_base.specs.CutLaws.{AreNames, index_in-before, index_in-raise, IsCut-raise, IsCut-raised, index_in-first}
use Rattle.cg_base.specs.IdLaws.{same_name}
use Rattle.cg_base.specs.SetLaws.{each-replica}
use Rattle.cg_action.specs.declared.action.Action.{Action}
use Rattle.cg_action.specs.ActionLimits.{IsAction}
use Rattle.cg_queue.specs.Queue.{QueueView, names_of}
use Rattle.cg_records.specs.Limits.{IsIndex}
use Rattle.cg_disk_records.specs.Agreeing.{indexes_of, count_to, counts_up}
use Rattle.cg_disk_records.specs.NameLaws.{names-within}
use Rattle.cg_store.specs.Leading.{AreNext, LeadTo, IsBelow}
use Rattle.cg_records.specs.CutLaws.{raise-indexed}

-- the indexes of a creator's names, in the order of the list
abbrev pub indexes_in : List ActionId → ℕ → List ℕ
indexes_in ids p = map (λ id. id.index) (filter (λ id. id.creator == p) ids)

-- ---- names whose indexes count up

-- the indexes of each creator's names count up from a cut
abbrev pub CountFrom : List ActionId → List ActionId → Type 0
CountFrom cut ids = (p : ℕ) → IsId p → indexes_in ids p ≡ count_up (suc (index_in cut p)) (length (indexes_in ids p))

indexes_in-own : (id : ActionId) (ids : List ActionId) (p : ℕ) → id.creator ≡ p → indexes_in (id ∷ ids) p ≡ id.index ∷ indexes_in ids p
indexes_in-own id ids p same = rw (eq-eqb id.creator p same)

indexes_in-other : (id : ActionId) (ids : List ActionId) (p : ℕ) → id.creator ≢ p → indexes_in (id ∷ ids) p ≡ indexes_in ids p
indexes_in-other id ids p apart = rw (ne_eqb id.creator p apart)

-- the parts of a list that counts up
counts-parts : (n k : ℕ) (ns : List ℕ) → n ∷ ns ≡ count_up (suc k) (suc (length ns)) → (n ≡ suc k) × (ns ≡ count_up (suc (suc k)) (length ns))
counts-parts n k ns e = (cc, cc)

raised-own : (cut : List ActionId) (id : ActionId) → IsCut cut → id.index ≡ suc (index_in cut id.creator) → index_in (raise cut id) id.creator ≡ id.index
raised-own cut id is_cut next = index_in-raise cut id id.creator is_cut ∙ rw (eq-eqb id.creator id.creator refl) (omega (arith, next))

raised-other : (cut : List ActionId) (id : ActionId) (p : ℕ) → IsCut cut → id.creator ≢ p → index_in (raise cut id) p ≡ index_in cut p
raised-other cut id p is_cut apart = index_in-raise cut id p is_cut ∙ rw (ne_eqb id.creator p apart) refl

pub counted-next : (cut ids : List ActionId) → IsCut cut → AreNames ids → CountFrom cut ids → AreNext cut ids
counted-next cut [] is_cut are counts = tt
counted-next cut (id ∷ ids) is_cut are counts = (first.0, counted-next (raise cut id) ids (IsCut-raise cut id are.0 are.1 is_cut) are.2 rest)
  where
    own : indexes_in (id ∷ ids) id.creator ≡ id.index ∷ indexes_in ids id.creator
    own = indexes_in-own id ids id.creator refl

    first : (id.index ≡ suc (index_in cut id.creator)) × (indexes_in ids id.creator ≡ count_up (suc (suc (index_in cut id.creator))) (length (indexes_in ids id.creator)))
    first = counts-parts id.index (index_in cut id.creator) (indexes_in ids id.creator) (rw own at (counts id.creator are.0))

    rest : CountFrom (raise cut id) ids
    rest p is = elim (cases_eq id.creator p) [
      | inl same ↦
          let there : index_in (raise cut id) p ≡ suc (index_in cut id.creator) = ap (index_in (raise cut id)) (sym same) ∙ raised-own cut id is_cut first.0 ∙ first.0 in
          rw (there, sym same) first.1
      | inr apart ↦ rw (raised-other cut id p is_cut apart) (rw (indexes_in-other id ids p apart) at (counts p is))
    ]

-- ---- where they lead

pub index_in-led : (cut ids : List ActionId) (p : ℕ) → IsCut cut → AreNames ids → AreNext cut ids → index_in (fold raise cut ids) p ≡ index_in cut p + length (indexes_in ids p)
index_in-led cut [] p is_cut are next = omega arith
index_in-led cut (id ∷ ids) p is_cut are next =
    let later = index_in-led (raise cut id) ids p (IsCut-raise cut id are.0 are.1 is_cut) are.2 next.1 in
    elim (cases_eq id.creator p) [
      | inl same ↦
          let there : index_in (raise cut id) p ≡ suc (index_in cut p) = ap (index_in (raise cut id)) (sym same) ∙ raised-own cut id is_cut next.0 ∙ next.0 ∙ ap (λ q. suc (index_in cut q)) same in
          rw (indexes_in-own id ids p same) (omega (arith, later, there))
      | inr apart ↦ rw (indexes_in-other id ids p apart) (omega (arith, later, raised-other cut id p is_cut apart))
    ]

-- ---- cuts with the same indexes

abbrev SameIndexes : ℕ → List ActionId → List ActionId → Type 0
SameIndexes low a b = (p : ℕ) → low ≤ p → index_in a p ≡ index_in b p

index_in-rest : (x : ActionId) (cut : List ActionId) (p : ℕ) → x.creator ≢ p → index_in (x ∷ cut) p ≡ index_in cut p
index_in-rest x cut p apart = rw (ne_eqb x.creator p apart)

rest-same : (x y : ActionId) (a b : List ActionId) (low : ℕ) → x.creator ≡ y.creator → low ≤ x.creator → SameIndexes low (x ∷ a) (y ∷ b) → SameIndexes (suc x.creator) a b
rest-same x y a b low together le same p above =
    sym (index_in-rest x a p (λ e. omega (arith, e))) ∙ same p (omega arith) ∙ index_in-rest y b p (λ e. omega (arith, e, together))

same-cuts : (low : ℕ) (a b : List ActionId) → Ascends low (creators_in a) → Ascends low (creators_in b) → NameActions a → NameActions b → SameIndexes low a b → a ≡ b
same-cuts low [] [] up_a up_b has_a has_b same = refl
same-cuts low [] (y ∷ b) up_a up_b has_a has_b same =
    let there : 0 ≡ y.index = same y.creator up_b.0 ∙ index_in-first y b in
    let some : 1 ≤ y.index = has_b.0 in
    absurd (omega (arith, there))
same-cuts low (x ∷ a) [] up_a up_b has_a has_b same =
    let there : x.index ≡ 0 = sym (index_in-first x a) ∙ same x.creator up_a.0 in
    let some : 1 ≤ x.index = has_a.0 in
    absurd (omega (arith, there))
same-cuts low (x ∷ a) (y ∷ b) up_a up_b has_a has_b same = elim (cases_order x.creator y.creator) [
  | inl together ↦
      let indexes : x.index ≡ y.index = sym (index_in-first x a) ∙ same x.creator up_a.0 ∙ ap (index_in (y ∷ b)) together ∙ index_in-first y b in
      let first : x ≡ y = same_name x y together indexes in
      let under : Ascends (suc x.creator) (creators_in b) = subst (λ k. Ascends (suc k) (creators_in b)) (sym together) up_b.2 in
      let rest : a ≡ b = same-cuts (suc x.creator) a b up_a.2 under has_a.2 has_b.2 (rest-same x y a b low together up_a.0 same) in
      λ i. first i ∷ rest i
  | inr apart ↦ elim apart [
    | inl front ↦
        let there : x.index ≡ index_in b x.creator = sym (index_in-first x a) ∙ same x.creator up_a.0 ∙ index_in-rest y b x.creator (λ e. omega (arith, e, front)) in
        let none : index_in b x.creator ≡ 0 = index_in-before b (suc y.creator) x.creator up_b.2 (omega (arith, front)) in
        let some : 1 ≤ x.index = has_a.0 in
        absurd (omega (arith, there, none))
    | inr behind ↦
        let there : index_in a y.creator ≡ y.index = sym (index_in-rest x a y.creator (λ e. omega (arith, e, behind))) ∙ same y.creator up_b.0 ∙ index_in-first y b in
        let none : index_in a y.creator ≡ 0 = index_in-before a (suc x.creator) y.creator up_a.2 (omega (arith, behind)) in
        let some : 1 ≤ y.index = has_b.0 in
        absurd (omega (arith, there, none))
  ]
]

-- no replica has an identifier above 32
index_in-beyond : (cut : List ActionId) (low p : ℕ) → Ascends low (creators_in cut) → 33 ≤ p → index_in cut p ≡ 0
index_in-beyond [] low p up far = refl
index_in-beyond (t ∷ cut) low p up far =
    let high : t.creator ≤ 32 = up.1 in
    index_in-rest t cut p (λ e. omega (arith, e)) ∙ index_in-beyond cut (suc t.creator) p up.2 far

pub cuts-same : (a b : List ActionId) → IsCut a → IsCut b → ((p : ℕ) → IsId p → index_in a p ≡ index_in b p) → a ≡ b
cuts-same a b is_a is_b same = same-cuts 1 a b is_a.ascends is_b.ascends is_a.named is_b.named (λ p low. elim (cases_lt p 33) [
  | inl near ↦ same p (low, omega (arith, near))
  | inr far ↦ index_in-beyond a 1 p is_a.ascends far ∙ sym (index_in-beyond b 1 p is_b.ascends far)
])

-- ---- actions and their names

indexes-named : (actions : List Action) (p : ℕ) → indexes_of actions p ≡ indexes_in (names_of actions) p
indexes-named [] p = refl
indexes-named (a ∷ actions) p = elim (cases_eq a.id.creator p) [
  | inl same ↦ rw (eq-eqb a.id.creator p same) (ap (λ ns. a.id.index ∷ ns) (indexes-named actions p))
  | inr apart ↦ rw (ne_eqb a.id.creator p apart) (indexes-named actions p)
]

-- ---- numbers that count up to the last one

counts-length : (last : ℕ) (ns : List ℕ) → count_to last ns ≡ true → length ns ≡ last - (last - length ns)
counts-length last ns counts =
    ap length (same_text ns (above_up_to (last - length ns) last) (sym counts)) ∙ length-count_up (suc (last - length ns)) (last - (last - length ns))

counts-from : (below last : ℕ) (ns : List ℕ) → below ≡ last - length ns → count_to last ns ≡ true → ns ≡ count_up (suc below) (length ns)
counts-from below last ns at counts =
    same_text ns (above_up_to (last - length ns) last) (sym counts)
    ∙ ap (λ n. count_up (suc (last - length ns)) n) (sym (counts-length last ns counts))
    ∙ ap (λ b. count_up (suc b) (length ns)) (sym at)

-- ---- behind the cut below them

module _ (cut : List ActionId) (actions : List Action) (below : List ActionId) (is : IsBelow cut actions below) (are : Each IsAction actions) (lead : LeadTo cut actions) where
  count-below : CountFrom below (names_of actions)
  count-below p is_id = subst (λ ns. ns ≡ count_up (suc (index_in below p)) (length ns)) (indexes-named actions p)
      (counts-from (index_in below p) (index_in cut p) (indexes_of actions p) (is.each p is_id) (lead p is_id))

  pub below-next : AreNext below (names_of actions)
  below-next = counted-next below (names_of actions) is.is_cut (names-within actions are) count-below

  pub below-leads : IsCut cut → fold raise below (names_of actions) ≡ cut
  below-leads is_cut =
      cuts-same (fold raise below (names_of actions)) cut (IsCut-raised below (names_of actions) is.is_cut (names-within actions are)) is_cut
      (λ p is_id.
      let led = index_in-led below (names_of actions) p is.is_cut (names-within actions are) below-next in
      let count : length (indexes_of actions p) ≡ index_in cut p - (index_in cut p - length (indexes_of actions p)) = counts-length (index_in cut p) (indexes_of actions p) (lead p is_id) in
      led ∙ ap (λ ns. index_in below p + length ns) (sym (indexes-named actions p)) ∙ ap (λ n. n + length (indexes_of actions p)) (is.each p is_id) ∙ omega (arith, count))

-- ---- the cut below, made slot by slot

index_in-small : (cut : List ActionId) (p : ℕ) → Each (λ top. IsIndex top.index) cut → index_in cut p < 2 ^ 63
index_in-small [] p each = omega arith
index_in-small (t ∷ cut) p each = elim (cases_eq t.creator p) [
  | inl here ↦ rw (eq-eqb t.creator p here) each.0.1
  | inr other ↦ rw (ne_eqb t.creator p other) (index_in-small cut p each.1)
]

-- the same of the replicas up to a slot, and nothing of the others
pub record IsBelowTo (cut : List ActionId) (actions : List Action) (slot : ℕ) (below : List ActionId) : Type 0 where
  pub is_cut : IsCut below
  pub indexes : Each (λ top. IsIndex top.index) below
  pub each : (p : ℕ) → IsId p → index_in below p ≡ cond (leb p slot) (index_in cut p - length (indexes_of actions p)) 0

module _ (cut : List ActionId) (actions : List Action) (slot : ℕ) (below : List ActionId) (few : slot < 32) (small : Each (λ top. IsIndex top.index) cut) (so_far : IsBelowTo cut actions slot below) where
  abbrev front : ℕ → ℕ
  front p = index_in cut p - length (indexes_of actions p)

  abbrev next : ActionId
  next = record { creator = slot + 1; index = front (slot + 1) }

  next-small : front (slot + 1) < 2 ^ 63
  next-small = let all = index_in-small cut (slot + 1) small in omega (arith, all)

  not-yet : index_in below (slot + 1) ≡ 0
  not-yet = so_far.each (slot + 1) (omega arith, omega arith) ∙ rw (lt-leb (slot + 1) slot (omega arith)) refl

  same-below : (p : ℕ) → slot + 1 ≢ p → leb p slot ≡ leb p (slot + 1)
  same-below p apart = elim (cases_lt p (slot + 1)) [
    | inl lower ↦ le-leb p slot (omega (arith, lower)) ∙ sym (le-leb p (slot + 1) (omega (arith, lower)))
    | inr above ↦ lt-leb p slot (omega (arith, above)) ∙ sym (lt-leb p (slot + 1) (omega (arith, above, apart)))
  ]

  below-each : (p : ℕ) → IsId p → index_in (raise below next) p ≡ cond (leb p (slot + 1)) (front p) 0
  below-each p is = index_in-raise below next p so_far.is_cut ∙ elim (cases_eq (slot + 1) p) [
    | inl same ↦ subst (λ q. cond (eqb (slot + 1) q) (max (index_in below q) (front (slot + 1))) (index_in below q) ≡ cond (leb q (slot + 1)) (front q) 0) same
        (rw (eq-eqb (slot + 1) (slot + 1) refl, le-leb (slot + 1) (slot + 1) (omega arith), not-yet) (omega arith))
    | inr apart ↦ rw (ne_eqb (slot + 1) p apart) (so_far.each p is ∙ ap (λ b. cond b (front p) 0) (same-below p apart))
  ]

  pub below-step : IsBelowTo cut actions (slot + 1) (raise below next)
  below-step = record {
    is_cut = IsCut-raise below next (omega arith, omega arith) (omega (arith, next-small)) so_far.is_cut;
    indexes = raise-indexed below next next-small so_far.indexes;
    each = below-each;
  }

-- one slot more, by the numbers that a call has
pub below-made : (cut : List ActionId) (actions : List Action) (slot id index : ℕ) (below new : List ActionId) → slot < 32 → Each (λ top. IsIndex top.index) cut → IsBelowTo cut actions slot below
    → id ≡ slot + 1 → index ≡ index_in cut id - length (indexes_of actions id) → new ≡ raise below (record { creator = id; index = index }) → IsBelowTo cut actions (slot + 1) new
below-made cut actions slot id index below new few small so_far id_is index_is new_is =
    let there : index ≡ index_in cut (slot + 1) - length (indexes_of actions (slot + 1)) = index_is ∙ ap (λ p. index_in cut p - length (indexes_of actions p)) id_is in
    subst (λ c. IsBelowTo cut actions (slot + 1) c) (sym (new_is ∙ (λ i. raise below (record { creator = id_is i; index = there i })))) (below-step cut actions slot below few small so_far)

-- ---- what a checkpoint says of its greens and reds

pub greens-lead : (q : QueueView) → IsTrue (list_all (counts_up q) every_replica) → LeadTo q.green_cut q.greens
greens-lead q all p is = (and_parts _ _ (each-replica (counts_up q) p all is)).0

counts-above : (low high : ℕ) (ns : List ℕ) → pointwise nat_eq ns (above_up_to low high) ≡ true → ns ≡ count_up (suc low) (length ns)
counts-above low high ns counts =
    let is = same_text ns (above_up_to low high) (sym counts) in
    is ∙ ap (count_up (suc low)) (sym (ap length is ∙ length-count_up (suc low) (high - low)))

pub reds-next : (q : QueueView) → IsTrue (list_all (counts_up q) every_replica) → IsCut q.green_cut → Each IsAction q.reds → AreNext q.green_cut (names_of q.reds)
reds-next q all is_cut are = counted-next q.green_cut (names_of q.reds) is_cut (names-within q.reds are)
    (λ p is. subst (λ ns. ns ≡ count_up (suc (index_in q.green_cut p)) (length ns)) (indexes-named q.reds p)
    (counts-above (index_in q.green_cut p) (index_in q.red_cut p) (indexes_of q.reds p) (and_parts _ _ (each-replica (counts_up q) p all is)).1))
