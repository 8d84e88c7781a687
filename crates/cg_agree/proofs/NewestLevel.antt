-- The attempt that opened the newest level: its members, and that somebody is out of its configuration who has told something later.
use Rattle.std.proofs.Common.{◌≡◌, ℕ, zero, suc, ◌<◌, true, false, not, ◌||◌, List, [], ◌∷◌, Option, Some, IfSome, is_some, refl, sym, ap, ◌∙◌, subst, inl, inr, arith, eqb-true}
use Rattle.std.specs.Prelude.{◌==◌}
use Rattle.std.specs.List.{list_all}
use Rattle.std.proofs.lemmas.Bool.{cases_Bool, cond-false, ne_eqb}
use Rattle.cg_base.specs.Sets.{has}
use Rattle.cg_base.specs.Weights.{ids}
use Rattle.cg_base.specs.FindLaws.{found_passes}
use Rattle.cg_members.specs.Members.{Members}
use Rattle.cg_client.specs.Install.{weighted}
use Rattle.cg_model.specs.Chronicle.{Attempt, Chronicle}
use Rattle.cg_model.specs.Fronts.{IsSomeWith}
use Rattle.cg_model.specs.Looks.{attempt_of, attempt_at, top_of, told_in, members_in, is_member, is_regular_in}
use Rattle.cg_model.specs.Levels.{prim_at, prim_of, is_installed, is_frozen, is_frozen_in}
use Rattle.cg_model.specs.FactsTalk.{whole_talk}
use Rattle.cg_model.specs.FactsAttempts.{IsAttempt}
use Rattle.cg_agree.proofs.ClearedDead.{IsToldIn, each-told, regular-in}
use Rattle.cg_agree.proofs.DeadKept.{remaining-senders}
use Rattle.cg_agree_lemmas.specs.Knowledge.{sender-told}
use Rattle.cg_agree_lemmas.specs.ReachFacts.{all-at}
use Rattle.cg_agree_lemmas.specs.ReachWorld.{opened-at, opened-attempt}
use Rattle.cg_agree.proofs.ToldLine.{Behind}

pub ids-weighted : (m : Members) (set : List ℕ) → ids (weighted m set) ≡ set
ids-weighted m [] = refl
ids-weighted m (p ∷ set) = ap (λ xs. p ∷ xs) (ids-weighted m set)

-- an attempt with this place among the levels
pub record Newest (c : Chronicle) (a : Attempt) : Type 0 where
  pub found : attempt_of c a.conf ≡ Some a
  pub from : suc a.from ≡ top_of c
  pub installed : is_installed a ≡ true

pub newest-level : (c : Chronicle) → Behind c → 0 < top_of c → Newest c (attempt_at c (top_of c))
newest-level c f some = at (top_of c) refl some where
  at : (level : ℕ) → level ≡ top_of c → 0 < level → Newest c (attempt_at c level)
  at zero e some = absurd (omega arith)
  at (suc level) e some =
      let o = opened-at c (suc level) f.attempt.levels_stand some (omega arith) in
      let conf : o.attempt.conf ≡ o.conf = eqb-true o.attempt.conf o.conf (found_passes (λ (a : Attempt). a.conf == o.conf) c.attempts o.attempt o.found) in
      let one = subst (λ (u : Option ℕ). IsSomeWith u (λ conf. IsSomeWith (attempt_of c conf) (λ a. (a.from ≡ level) × (is_installed a ≡ true)))) o.place (f.attempt.levels_stand.opened level (omega arith)) in
      let two = subst (λ (u : Option Attempt). IsSomeWith u (λ a. (a.from ≡ level) × (is_installed a ≡ true))) o.found one in
      subst (Newest c) (sym (opened-attempt c (suc level) o)) (record {
        found = ap (attempt_of c) conf ∙ o.found;
        from = ap suc two.0 ∙ e;
        installed = two.1;
      })

module _ (c : Chronicle) (f : Behind c) (conf : ℕ) (a : Attempt) (found : attempt_of c conf ≡ Some a) where
  pub shape-of : IsAttempt c conf a
  shape-of = subst (λ (o : Option Attempt). IfSome o (IsAttempt c conf)) found (f.attempt.attempt_shape conf)

  -- who has installed an attempt is of its set
  pub installed-inside : (r : ℕ) → has a.installed r ≡ true → has a.set r ≡ true
  installed-inside r is = all-at (has a.set) a.entered r shape-of.entered (all-at (has a.entered) a.installed r shape-of.installed is)

  -- and who is of its set is a member of its configuration
  pub set-members : (r : ℕ) → has a.set r ≡ true → is_member c conf r ≡ true
  set-members r is =
      let heard = (whole_talk c conf).heard in
      let sent = sender-told (IsToldIn c conf) heard r (remaining-senders heard r (ap (λ l. has l r) (sym shape-of.parts.set) ∙ is)) (each-told c conf heard (f.talk.heard_is_told conf)) in
      f.net.past_left.member conf r (ap (λ q. is_some (told_in c conf q)) (sym sent.id) ∙ ap is_some sent.holds.found)

module _ (c : Chronicle) (f : Behind c) (some : 0 < top_of c) where
  abbrev a : Attempt
  a = attempt_at c (top_of c)

  pub above : (b : ℕ) → (top_of c == 0) ≡ false
  above b = ne_eqb (top_of c) 0 (λ e. absurd (omega arith))

  pub prim-top : prim_at c (top_of c) ≡ prim_of c (top_of c) a
  prim-top = cond-false (top_of c == 0) (record { index = 0; conf = 0; set = c.start }) (prim_of c (top_of c) a) (above 0)

  -- a member who has told something in a later configuration is out
  pub frozen-by : (later q : ℕ) → a.conf < later → has a.set q ≡ true → is_some (told_in c later q) ≡ true → is_frozen c (top_of c) ≡ true
  frozen-by later q before member told =
      let out = regular-in c a.conf q (f.net.past_left.left later q a.conf told before) in
      let there = set-members c f a.conf a (newest-level c f some).found q member in
      ap (λ b. b || is_frozen_in c a.conf) (above 0) ∙ elim (cases_Bool (list_all (is_regular_in c a.conf) (members_in c a.conf))) [
        | inl all ↦ absurd (let clash : true ≡ false = sym (all-at (is_regular_in c a.conf) (members_in c a.conf) q all there) ∙ out in cc)
        | inr isnt ↦ ap not isnt
      ]
