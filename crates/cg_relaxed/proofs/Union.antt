-- The last writes of all that two cuts name, creator by creator.
use Rattle.std.proofs.Common.{◌≡◌, ◌≢◌, ℕ, zero, suc, ◌+◌, ◌<◌, ◌≤◌, List, [], ◌∷◌, fold, max, inl, inr, refl, sym, ap, ◌∙◌, arith}
use Rattle.std.specs.Prelude.{Option, ℤ, ◌+ℤ◌}
use Rattle.std.specs.List.{flat_map}
use Rattle.std.proofs.lemmas.Int.{ints}
use Rattle.std.proofs.lemmas.Bool.{cases_eq}
use Rattle.cg_base.specs.declared.action_id.ActionId.{ActionId}
use Rattle.cg_base.specs.Cuts.{index_in}
use Rattle.cg_base.specs.Lists.{count_up}
use Rattle.cg_action.specs.declared.action.Action.{Action}
use Rattle.cg_relaxed.specs.declared.write.Stamp.{Stamp}
use Rattle.cg_relaxed.specs.declared.write.Write.{Write}
use Rattle.cg_relaxed.specs.Writes.{later, written}
use Rattle.cg_relaxed.specs.Cells.{sum_of, last_write}
use Rattle.cg_relaxed.specs.Relaxed.{first_of, AreMade}
use Rattle.cg_relaxed.proofs.Later.{later-assoc, later-commutes, Of, Of-more, Of-later}
use Rattle.cg_relaxed.proofs.Known.{name, last-append, sum-append, last-of-two, last-more, last-by, IsBy}

-- the second cut knows one more action of a creator
pub record IsNextOf (c d : List ActionId) (q : ℕ) : Type 0 where
  pub here : index_in d q ≡ suc (index_in c q)
  pub others : (p : ℕ) → p ≢ q → index_in d p ≡ index_in c p

module _ (key : List ℕ) (made : ActionId → Action) where
  -- the last write of those of one creator, and of those of the creators from one on
  abbrev pub of_one : List ActionId → ℕ → Option Write
  of_one cut p = last_write key (first_of made p (index_in cut p))

  abbrev pub of_all : List ActionId → ℕ → ℕ → Option Write
  of_all cut from n = last_write key (flat_map (λ p. first_of made p (index_in cut p)) (count_up from n))

  of-all-more : (cut : List ActionId) (from n : ℕ) → of_all cut from (suc n) ≡ later (of_one cut from) (of_all cut (suc from) n)
  of-all-more cut from n =
      last-append key (first_of made from (index_in cut from)) (flat_map (λ p. first_of made p (index_in cut p)) (count_up (suc from) n))

  abbrev pub IsFrom : ℕ → Stamp → Type 0
  IsFrom p s = p ≤ s.creator

  one-by : (cut : List ActionId) (p : ℕ) → AreMade made cut → Of (IsBy p) (of_one cut p)
  one-by cut p by_name = last-by key made p (index_in cut p) (λ index some small. by_name (name p index) some small)

  all-from : (cut : List ActionId) (from n : ℕ) → AreMade made cut → Of (IsFrom from) (of_all cut from n)
  all-from cut from zero by_name = tt
  all-from cut from (suc n) by_name =
      rw (of-all-more cut from n) (Of-later (IsFrom from) (of_one cut from) (of_all cut (suc from) n)
      (Of-more (IsBy from) (IsFrom from) (of_one cut from) (λ s is. omega arith) (one-by cut from by_name))
      (Of-more (IsFrom (suc from)) (IsFrom from) (of_all cut (suc from) n) (λ s is. omega arith) (all-from cut (suc from) n by_name)))

  pub of-union : (c d e : List ActionId) (from n : ℕ) → AreMade made c → AreMade made d →
      ((p : ℕ) → index_in e p ≡ max (index_in c p) (index_in d p)) →
      later (of_all c from n) (of_all d from n) ≡ of_all e from n
  of-union c d e from zero one other most = refl
  of-union c d e from (suc n) one other most =
      let c1 = of_one c from in
      let d1 = of_one d from in
      let cs = of_all c (suc from) n in
      let ds = of_all d (suc from) n in
      let apart : later cs d1 ≡ later d1 cs =
      later-commutes (IsFrom (suc from)) (IsBy from) cs d1 (all-from c (suc from) n one) (one-by d from other)
      (λ s t above by index creator. omega arith) in
      let first : later c1 d1 ≡ of_one e from =
      last-of-two key made from (index_in c from) (index_in d from) ∙ ap (λ k. last_write key (first_of made from k)) (sym (most from)) in
      let rest : later cs ds ≡ of_all e (suc from) n = of-union c d e (suc from) n one other most in
      ap (λ w. later w (of_all d from (suc n))) (of-all-more c from n)
      ∙ ap (λ w. later (later c1 cs) w) (of-all-more d from n)
      ∙ later-assoc c1 cs (later d1 ds)
      ∙ ap (λ w. later c1 w) (sym (later-assoc cs d1 ds) ∙ ap (λ w. later w ds) apart ∙ later-assoc d1 cs ds)
      ∙ sym (later-assoc c1 d1 (later cs ds))
      ∙ ap (λ w. later w (later cs ds)) first
      ∙ ap (λ w. later (of_one e from) w) rest
      ∙ sym (of-all-more e from n)

  -- the same of cuts that know the same of the creators from one on
  of-same : (c d : List ActionId) (from n : ℕ) → ((p : ℕ) → from ≤ p → index_in c p ≡ index_in d p) → of_all c from n ≡ of_all d from n
  of-same c d from zero same = refl
  of-same c d from (suc n) same =
      of-all-more c from n
      ∙ ap (λ k. later (last_write key (first_of made from k)) (of_all c (suc from) n)) (same from (omega arith))
      ∙ ap (λ w. later (of_one d from) w) (of-same c d (suc from) n (λ p above. same p (omega arith)))
      ∙ sym (of-all-more d from n)

  -- one more action of one of these creators
  pub of-next : (c d : List ActionId) (q from n : ℕ) → AreMade made c → IsNextOf c d q → from ≤ q → q < from + n →
      Of (IsBy q) (written key (made (name q (suc (index_in c q))))) →
      later (of_all c from n) (written key (made (name q (suc (index_in c q))))) ≡ of_all d from n
  of-next c d q from zero one next low high by = absurd (omega arith)
  of-next c d q from (suc n) one next low high by =
      let w = written key (made (name q (suc (index_in c q)))) in
      let c1 = of_one c from in
      let cs = of_all c (suc from) n in
      ap (λ v. later v w) (of-all-more c from n) ∙ later-assoc c1 cs w ∙ elim (cases_eq from q) [
        | inl here ↦
            let apart : later cs w ≡ later w cs =
            later-commutes (IsFrom (suc from)) (IsBy q) cs w (all-from c (suc from) n one) by (λ s t above is index creator. omega arith) in
            let first : later c1 w ≡ of_one d from = here-first c d q from here next in
            let rest : cs ≡ of_all d (suc from) n =
            of-same c d (suc from) n (λ p above. sym (next.others p (λ e. omega arith))) in
            ap (λ v. later c1 v) apart ∙ sym (later-assoc c1 w cs) ∙ ap (λ v. later v cs) first
            ∙ ap (λ v. later (of_one d from) v) rest ∙ sym (of-all-more d from n)
        | inr other ↦
            let rest : later cs w ≡ of_all d (suc from) n = of-next c d q (suc from) n one next (omega arith) (omega arith) by in
            let first : c1 ≡ of_one d from =
            ap (λ k. last_write key (first_of made from k)) (sym (next.others from other)) in
            ap (λ v. later c1 v) rest ∙ ap (λ v. later v (of_all d (suc from) n)) first ∙ sym (of-all-more d from n)
      ]
    where
      here-first : (c d : List ActionId) (q from : ℕ) → from ≡ q → IsNextOf c d q →
          later (of_one c from) (written key (made (name q (suc (index_in c q))))) ≡ of_one d from
      here-first c d q from here next =
          ap (λ p. later (of_one c from) (written key (made (name p (suc (index_in c p)))))) (sym here)
          ∙ sym (last-more key made from (index_in c from))
          ∙ ap (λ k. last_write key (first_of made from k)) (sym (ap (λ p. index_in d p) here ∙ next.here ∙ ap (λ p. suc (index_in c p)) (sym here)))

-- ---- sums, whoever added

pub sums-of : (key : List ℕ) (actions : ℕ → List Action) (sums : ℕ → ℤ) (n : ℤ) (ps : List ℕ) →
    ((p : ℕ) → sums p ≡ sum_of key (actions p)) →
    fold (λ m p. m +ℤ sums p) n ps ≡ n +ℤ sum_of key (flat_map actions ps)
sums-of key actions sums n [] are = omega (arith, ints)
sums-of key actions sums n (p ∷ ps) are =
    let rest = sums-of key actions sums (n +ℤ sums p) ps are in
    let whole = sum-append key (actions p) (flat_map actions ps) in
    let first = are p in
    omega (arith, ints)
