-- Who has installed an attempt has gone past its index, and who left it has no fewer greens than then: every small step keeps both.
use Rattle.std.proofs.Common.{◌≡◌, ℕ, ◌≤◌, ◌<◌, true, false, [], ◌∷◌, ◌++◌, length, find, Option, Some, None, IfSome, is_some, option_map, refl, sym, ap, ◌∙◌, subst, inl, inr, arith, eqb, eqb-true}
use Rattle.std.specs.Prelude.{◌==◌}
use Rattle.std.specs.Option.{option_map_or}
use Rattle.std.proofs.lemmas.Bool.{cases_Bool, cond_both, cond-true, cond-false, or_cases}
use Rattle.cg_base.specs.Sets.{has}
use Rattle.cg_base.specs.SetLaws.{has-with_member}
use Rattle.cg_base.specs.FindLaws.{found_before}
use Rattle.cg_records.specs.declared.primary.Primary.{Primary}
use Rattle.cg_client.specs.Install.{prim_after}
use Rattle.cg_client.specs.Replica.{Held}
use Rattle.cg_model.specs.World.{Node, node_of}
use Rattle.cg_model.specs.Attempts.{held_in}
use Rattle.cg_model.specs.Chronicle.{Leaving, Attempt, Chronicle}
use Rattle.cg_model.specs.Looks.{greens_of, core_of, attempt_of, left_count}
use Rattle.cg_model.specs.FactsReplica.{has_installed}
use Rattle.cg_model.specs.FactsAttempts.{IsAttempt, InstalledIndex}
use Rattle.cg_model.specs.Facts.{Invariant}
use Rattle.cg_model.specs.Played.{AtRest}
use Rattle.cg_model.specs.Small.{Small, small_step, with_leaver}
use Rattle.cg_model.specs.Smalls.{may_make}
use Rattle.cg_agree_lemmas.specs.ReachFacts.{all-at}
use Rattle.cg_agree_lemmas.specs.Keyed.{find-none}
use Rattle.cg_agree_lemmas.specs.AttemptsGrow.{grown-leaver}
use Rattle.cg_agree.proofs.AttemptSteps.{attempt-step}
use Rattle.cg_agree.proofs.DeadKept.{set-members}
use Rattle.cg_agree.proofs.AttemptsCame.{Came, Stayed, WasLeft, WasEntered, WasInstalled, WasMade, came}
use Rattle.cg_agree.proofs.CoresMove.{CoreMove, Was, Begins, CoresMove, cores-move}

-- who has installed an attempt has begun
installer-begun : (c : Chronicle) (i : Invariant c) (conf : ℕ) (a : Attempt) (p : ℕ) → attempt_of c conf ≡ Some a → has a.installed p ≡ true → core_of c p ≡ None → ⊥
installer-begun c i conf a p found installed none =
    let shape = subst (λ (o : Option Attempt). IfSome o (IsAttempt c conf)) found (i.attempt.attempt_shape conf) in
    let member = set-members c i conf a found p (all-at (has a.set) a.entered p shape.entered (all-at (has a.entered) a.installed p shape.installed installed)) in
    at (node_of c.world p) (i.net.members_begun.member conf p member) none
  where
    at : (o : Option Node) → is_some o ≡ true → option_map (λ (s : Node). held_in s.life) o ≡ None → ⊥
    at None begun none = let clash : false ≡ true = begun in cc
    at (Some s) begun none = let clash : Some (held_in s.life) ≡ None = none in cc

pub same-installed : (p n q : ℕ) (a : Attempt) → has (with_leaver p n a).installed q ≡ has a.installed q
same-installed p n q a = cond_both (has a.entered p) (record a { left = a.left ++ record { member = p; count = n } ∷ [] }) a (λ (x : Attempt). has x.installed q ≡ has a.installed q) (λ y. refl) (λ n. refl)

leaver-count : (p n q m : ℕ) (a : Attempt) → (q ≡ p → n ≤ m) → left_count a q ≤ m → left_count (with_leaver p n a) q ≤ m
leaver-count p n q m a new old =
    cond_both (has a.entered p) (record a { left = a.left ++ record { member = p; count = n } ∷ [] }) a (λ (x : Attempt). left_count x q ≤ m) (λ y. at (find (λ l. l.member == q) a.left) refl) (λ n. old) where
      last : Leaving
      last = record { member = p; count = n }

      at : (o : Option Leaving) → find (λ l. l.member == q) a.left ≡ o → option_map_or (λ l. l.count) (find (λ l. l.member == q) (a.left ++ record { member = p; count = n } ∷ [])) 0 ≤ m
      at (Some l) e =
          let same = ap (λ (o : Option Leaving). option_map_or (λ l. l.count) o 0) (found_before (λ (l : Leaving). l.member == q) a.left (record { member = p; count = n } ∷ []) l e) in
          let before = ap (λ (o : Option Leaving). option_map_or (λ l. l.count) o 0) e in
          omega (arith, same, before, old)
      at None e =
          let behind = ap (λ (o : Option Leaving). option_map_or (λ l. l.count) o 0) (find-none (λ (l : Leaving). l.member == q) a.left (record { member = p; count = n } ∷ []) e) in
          elim (cases_Bool (p == q)) [
            | inl mine ↦ (let le = new (sym (eqb-true p q mine)) in
                let this = ap (λ (o : Option Leaving). option_map_or (λ l. l.count) o 0) (cond-true (p == q) (let x : Option Leaving = Some (record { member = p; count = n }) in x) None mine) in omega (arith, behind, this, le))
            | inr other ↦
                (let this = ap (λ (o : Option Leaving). option_map_or (λ l. l.count) o 0) (cond-false (p == q) (let x : Option Leaving = Some (record { member = p; count = n }) in x) None other) in omega (arith, behind, this))
          ]

pub installed_index-kept : (c : Chronicle) (s : Small) → Invariant c → may_make c s ≡ true → AtRest c s → InstalledIndex (small_step c s)
installed_index-kept c s i may rest = record {
  index = λ conf p. at conf p (attempt_of (small_step c s) conf) refl (core_of (small_step c s) p) refl;
  count = λ conf p. counted conf p (attempt_of (small_step c s) conf) refl;
} where
  moves : CoresMove c (small_step c s)
  moves = cores-move c s i may rest

  -- of an attempt that was there, and of who had installed it
  before : (conf p : ℕ) (a : Attempt) (h : Held) → attempt_of c conf ≡ Some a → core_of (small_step c s) p ≡ Some h → has a.installed p ≡ true → a.from < h.prim.index
  before conf p a h found now installed = of_move (moves.move p h now) where
    of_move : CoreMove c p h → a.from < h.prim.index
    of_move (Begins none) = absurd (installer-begun c i conf a p found installed none)
    of_move (Was old was index) =
        let one = subst (λ (o : Option Attempt). IfSome o (λ a. IfSome (core_of c p) (λ h. has_installed a p ≡ true → a.from < h.prim.index))) found (i.attempt.installed_index.index conf p) in
        let two : has a.installed p ≡ true → a.from < old.prim.index = subst (λ (o : Option Held). IfSome o (λ h. has_installed a p ≡ true → a.from < h.prim.index)) was one in
        let lt = two installed in omega (arith, lt, index)

  of_came : (conf p : ℕ) (b : Attempt) (h : Held) → Came c (small_step c s) conf b → core_of (small_step c s) p ≡ Some h → has b.installed p ≡ true → b.from < h.prim.index
  of_came conf p b h (Stayed found) now is = before conf p b h found now is
  of_came conf p b h (WasLeft a found q n here made low) now is =
      let from = ap (λ (x : Attempt). x.from) made ∙ (grown-leaver q n a).same.from in
      let lt = before conf p a h found now (sym (same-installed q n p a) ∙ ap (λ (x : Attempt). has x.installed p) (sym made) ∙ is) in omega (arith, from, lt)
  of_came conf p b h (WasEntered a found q heard r new begins made moved) now is =
      let from = ap (λ (x : Attempt). x.from) made in
      let lt = before conf p a h found now (ap (λ (x : Attempt). has x.installed p) (sym made) ∙ is) in omega (arith, from, lt)
  of_came conf p b h (WasMade none q heard r new begins greens made moved handed) now is = absurd (let clash : true ≡ false = sym is ∙ ap (λ (x : Attempt). has x.installed p) made in cc)
  of_came conf p b h (WasInstalled q r new ins done here made levels core moved) now is =
      let from = ap (λ (x : Attempt). x.from) made in
      elim (or_cases (has ins.a.installed p) (eqb q p) (sym (has-with_member ins.a.installed q p) ∙ ap (λ (x : Attempt). has x.installed p) (sym made) ∙ is)) [
        | inl old ↦ (let lt = before conf p ins.a h (ap (attempt_of c) here ∙ ins.found) now old in omega (arith, from, lt))
        | inr mine ↦
            (let same : Some new.held ≡ Some h = sym core ∙ ap (core_of (small_step c s)) (eqb-true q p mine) ∙ now in
            let e = ap (λ (o : Option Held). option_map_or (λ x. x.prim.index) o 0) same in
            let index = ap (λ (x : Primary). x.index) (done.prim ∙ ap (prim_after r.held) ins.mine) in
            let low = ins.index in omega (arith, from, e, index, low))
      ]

  at : (conf p : ℕ) (o : Option Attempt) → attempt_of (small_step c s) conf ≡ o → (u : Option Held) → core_of (small_step c s) p ≡ u → IfSome o (λ a. IfSome u (λ h. has_installed a p ≡ true → a.from < h.prim.index))
  at conf p None e u now = tt
  at conf p (Some b) e None now = tt
  at conf p (Some b) e (Some h) now = λ is. of_came conf p b h (came c (small_step c s) conf b (attempt-step c s i may) e) now is

  -- counts
  counted-before : (conf p : ℕ) (a : Attempt) → attempt_of c conf ≡ Some a → left_count a p ≤ length (greens_of (small_step c s) p)
  counted-before conf p a found =
      let le = subst (λ (o : Option Attempt). IfSome o (λ a. left_count a p ≤ length (greens_of c p))) found (i.attempt.installed_index.count conf p) in
      let more = moves.greens p in omega (arith, le, more)

  counted-came : (conf p : ℕ) (b : Attempt) → Came c (small_step c s) conf b → left_count b p ≤ length (greens_of (small_step c s) p)
  counted-came conf p b (Stayed found) = counted-before conf p b found
  counted-came conf p b (WasLeft a found q n here made low) =
      subst (λ (x : Attempt). left_count x p ≤ length (greens_of (small_step c s) p)) (sym made)
      (leaver-count q n p (length (greens_of (small_step c s) p)) a (λ same. subst (λ k. n ≤ length (greens_of (small_step c s) k)) (sym same) low) (counted-before conf p a found))
  counted-came conf p b (WasEntered a found q heard r new begins made moved) = subst (λ (x : Attempt). left_count x p ≤ length (greens_of (small_step c s) p)) (sym made) (counted-before conf p a found)
  counted-came conf p b (WasInstalled q r new ins done here made levels core moved) =
      subst (λ (x : Attempt). left_count x p ≤ length (greens_of (small_step c s) p)) (sym made) (counted-before conf p ins.a (ap (attempt_of c) here ∙ ins.found))
  counted-came conf p b (WasMade none q heard r new begins greens made moved handed) = subst (λ (x : Attempt). left_count x p ≤ length (greens_of (small_step c s) p)) (sym made) (omega arith)

  counted : (conf p : ℕ) (o : Option Attempt) → attempt_of (small_step c s) conf ≡ o → IfSome o (λ a. left_count a p ≤ length (greens_of (small_step c s) p))
  counted conf p None e = tt
  counted conf p (Some b) e = counted-came conf p b (came c (small_step c s) conf b (attempt-step c s i may) e)
