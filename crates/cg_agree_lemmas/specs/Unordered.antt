-- Only who is regular has messages without a place: so it is in every group, whatever replicas do.
use Rattle.std.proofs.Common.{◌≡◌, ℕ, true, false, List, [], ◌∷◌, ◌++◌, Option, Some, None, refl, sym, ap, ◌∙◌, ⊎_elim, ◌⊎◌, inl, inr, eq-eqb, not}
use Rattle.std.specs.Prelude.{◌==◌}
use Rattle.std.specs.Option.{option_map_or}
use Rattle.std.proofs.lemmas.Bool.{cases_eq, cases_Bool, cond_both, cond-true, cond-false, ne_eqb}
use Rattle.cg_group.specs.declared.phase.Phase.TheVariants.{Down}
use Rattle.cg_group.specs.State.{Configuration, Standing, GroupState, standing_of, phase_of, unordered_of, regular_in, is_regular, set_standing, set_configuration, configuration}
use Rattle.cg_group.specs.Events.{go_down, send_from, send, send_all, order_from, order, with_message, with_delivered}
use Rattle.cg_group.specs.LookupLaws.{phase_of-set, unordered_of-set, standing_of-down, standing_of-set_configuration, put}

module _ {M : Type 0} where
  abbrev pub WaitRegular : GroupState M → Type 0
  WaitRegular g = (p : ℕ) → is_regular g p ≡ false → unordered_of g p ≡ []

  -- one replica is another, which is regular or has no such messages
  pub WaitRegular-set : (g : GroupState M) (s : Standing M) → (not (regular_in s.phase == 0) ≡ false → s.unordered ≡ []) → WaitRegular g → WaitRegular (set_standing g s)
  WaitRegular-set g s here rest p out =
      let phase : phase_of (set_standing g s) p ≡ put (phase_of g) s.id s.phase p = phase_of-set g s p in
      unordered_of-set g s p ∙ ⊎_elim
      (λ same.
      let is : (p == s.id) ≡ true = eq-eqb p s.id same in
      let at : put (phase_of g) s.id s.phase p ≡ s.phase = cond-true (p == s.id) s.phase (phase_of g p) is in
      cond-true (p == s.id) s.unordered (unordered_of g p) is ∙ here (ap (λ z. not (regular_in z == 0)) (sym (phase ∙ at)) ∙ out))
      (λ other.
      let no : (p == s.id) ≡ false = ne_eqb p s.id other in
      let at : put (phase_of g) s.id s.phase p ≡ phase_of g p = cond-false (p == s.id) s.phase (phase_of g p) no in
      cond-false (p == s.id) s.unordered (unordered_of g p) no ∙ rest p (ap (λ z. not (regular_in z == 0)) (sym (phase ∙ at)) ∙ out))
      (cases_eq p s.id)

  -- each replica is as before, or isn't up any more
  pub WaitRegular-fewer : (g h : GroupState M) → ((p : ℕ) → (standing_of h p ≡ standing_of g p) ⊎ (standing_of h p ≡ None)) → WaitRegular g → WaitRegular h
  WaitRegular-fewer g h same rest p out = ⊎_elim
      (λ e. ap (λ (o : Option (Standing M)). option_map_or (λ s. s.unordered) o []) e
      ∙ rest p (ap (λ (o : Option (Standing M)). not (regular_in (option_map_or (λ s. s.phase) o Down) == 0)) (sym e) ∙ out))
      (λ e. ap (λ (o : Option (Standing M)). option_map_or (λ s. s.unordered) o []) e)
      (same p)

  pub WaitRegular-down : (g : GroupState M) (p : ℕ) → WaitRegular g → WaitRegular (go_down g p)
  WaitRegular-down g p = WaitRegular-fewer g (go_down g p) (λ q. ⊎_elim
      (λ y. inr (standing_of-down g p q ∙ cond-true (q == p) None (standing_of g q) y))
      (λ n. inl (standing_of-down g p q ∙ cond-false (q == p) None (standing_of g q) n))
      (cases_Bool (q == p)))

  pub WaitRegular-configured : (g : GroupState M) (conf : ℕ) (k : Configuration M) → WaitRegular g → WaitRegular (set_configuration g conf k)
  WaitRegular-configured g conf k = WaitRegular-fewer g (set_configuration g conf k) (λ q. inl (standing_of-set_configuration g conf k q))

  -- a message that is sent waits at a regular replica, and at no other
  pub WaitRegular-send_from : (g : GroupState M) (o : Option (Standing M)) (m : M) → WaitRegular g → WaitRegular (send_from g o m)
  unfolding send_from
  WaitRegular-send_from g None m w = w
  WaitRegular-send_from g (Some s) m w =
      cond_both (regular_in s.phase == 0) g (set_standing g (record s { unordered = s.unordered ++ m ∷ [] })) WaitRegular
      (λ yes. w)
      (λ no. WaitRegular-set g (record s { unordered = s.unordered ++ m ∷ [] }) (λ out. absurd (let clash : not false ≡ false = ap not (sym no) ∙ out in cc)) w)

  pub WaitRegular-sent : (p : ℕ) (ms : List M) (g : GroupState M) → WaitRegular g → WaitRegular (send_all g p ms)
  unfolding send
  WaitRegular-sent p [] g w = w
  WaitRegular-sent p (m ∷ ms) g w = WaitRegular-sent p ms (send_from g (standing_of g p) m) (WaitRegular-send_from g (standing_of g p) m w)

  pub WaitRegular-order_from : (g : GroupState M) (s : Standing M) (ms : List M) → not (regular_in s.phase == 0) ≡ true → WaitRegular g → WaitRegular (order_from g s ms)
  unfolding order_from
  WaitRegular-order_from g s [] regular w = w
  WaitRegular-order_from g s (m ∷ rest) regular w =
      let conf = regular_in s.phase in
      WaitRegular-configured (set_standing g (record s { unordered = rest })) conf (with_message (configuration g conf) s.id m)
      (WaitRegular-set g (record s { unordered = rest }) (λ out. absurd (let clash : true ≡ false = sym regular ∙ out in cc)) w)

  pub WaitRegular-order : (g : GroupState M) (p : ℕ) → is_regular g p ≡ true → WaitRegular g → WaitRegular (order g p)
  unfolding order
  WaitRegular-order g p regular w = at (standing_of g p) regular where
    at : (o : Option (Standing M)) → not (regular_in (option_map_or (λ s. s.phase) o Down) == 0) ≡ true → WaitRegular (option_map_or (λ s. order_from g s s.unordered) o g)
    at None regular = w
    at (Some s) regular = WaitRegular-order_from g s s.unordered regular w

  pub WaitRegular-handed : (g : GroupState M) (p n : ℕ) → WaitRegular g → WaitRegular (with_delivered g p n)
  WaitRegular-handed g p n w = at (standing_of g p) (λ q. refl) where
    at : (o : Option (Standing M)) → ((q : ℕ) → standing_of g p ≡ o) → WaitRegular (option_map_or (λ s. set_standing g (record s { delivered = n })) o g)
    at None e = w
    at (Some s) e = WaitRegular-set g (record s { delivered = n }) (λ out.
        ap (λ (o : Option (Standing M)). option_map_or (λ s. s.unordered) o []) (sym (e 0))
        ∙ w p (ap (λ (o : Option (Standing M)). not (regular_in (option_map_or (λ s. s.phase) o Down) == 0)) (e 0) ∙ out)) w
