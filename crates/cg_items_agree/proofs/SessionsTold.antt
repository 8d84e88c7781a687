-- What the open sessions hold is what their lines have told: behind each write, each reply, each read and each opening.
use Rattle.std.proofs.Common.{◌≡◌, ℕ, ◌==◌, ◌<◌, ◌≤◌, nat_lt, eqb-true, eq-eqb, ◌&&◌, ◌||◌, is_some, List, [], ◌∷◌, ◌++◌, map, filter, Option, Some, None, Ok, Err, Bool, true, false, if◌then◌else◌, refl, sym, ap, subst, ◌∙◌, inl, inr, arith, append-nil}
use Rattle.std.proofs.lemmas.Bool.{cases_Bool, cases_lt, ltb-true, lt-ltb}
use mathlib.Core.List.{map-append}
use Rattle.cg_base.specs.declared.action_id.ActionId.{ActionId}
use Rattle.cg_base.specs.Ids.{has_name, same_id}
use Rattle.cg_base.specs.IdLaws.{same_id-is, has_name-append}
use Rattle.cg_base.specs.Lists.{first_some, present}
use Rattle.cg_action.specs.declared.answer.Answer.{Answer}
use Rattle.cg_session.specs.Token.{Token, wrote, read, raises, replied}
use Rattle.cg_session_list.specs.declared.session.Session.{Session}
use Rattle.cg_session_list.specs.declared.session_line.SessionLine.{SessionLine}
use Rattle.cg_session_list.specs.declared.session_line.SessionLine.TheVariants.{Wrote, At, Behind, Answered}
use Rattle.cg_session_list.specs.Sessions.{SessionsNoted, token_of, changed, changing, opened, read_as}
use Rattle.cg_items.specs.SessionsAgree.{at_number, written_on, writer_on, writer_of}
use Rattle.cg_items_agree.proofs.SessionsRising.{Rises, last_from, rises-append, last-append}
use Rattle.cg_items_agree.proofs.SessionsLooking.{look, stands_in, Apart, look-same, look-none, look-token, look-new, look-map, look-set, look-or, stands-token, apart-map, change_at, look-changing, stands-changing, apart-changing, apart-new}
use Rattle.cg_base.specs.ElementLaws.{present-append}

-- ---- lines

-- the numbers behind `at` of a session on lines, and the names that it wrote on them
abbrev pub numbers_on : ℕ → List SessionLine → List ℕ
numbers_on s lines = present (map (at_number s) lines)

abbrev pub written_in : ℕ → List SessionLine → List ActionId
written_in s lines = present (map (written_on s) lines)

-- the session is the writer
abbrev pub is_of : ℕ → Option ℕ → Bool
is_of s None = false
is_of s (Some t) = t == s

pub numbers-append : (s : ℕ) (a b : List SessionLine) → numbers_on s (a ++ b) ≡ numbers_on s a ++ numbers_on s b
numbers-append s a b = ap present (map-append (at_number s) a b) ∙ present-append (map (at_number s) a) (map (at_number s) b)

pub written-append : (s : ℕ) (a b : List SessionLine) → written_in s (a ++ b) ≡ written_in s a ++ written_in s b
written-append s a b = ap present (map-append (written_on s) a b) ∙ present-append (map (written_on s) a) (map (written_on s) b)

abbrev pub or_else : Option ℕ → Option ℕ → Option ℕ
or_else None b = b
or_else (Some a) b = Some a

first-both : (a b : List (Option ℕ)) → first_some (a ++ b) ≡ or_else (first_some a) (first_some b)
first-both [] b = refl
first-both (None ∷ a) b = first-both a b
first-both (Some x ∷ a) b = refl

pub writer-append : (a b : List SessionLine) (id : ActionId) → writer_of (a ++ b) id ≡ or_else (writer_of a id) (writer_of b id)
writer-append a b id = ap first_some (map-append (writer_on id) a b) ∙ first-both (map (writer_on id) a) (map (writer_on id) b)

pub or-none : (a : Option ℕ) → or_else a None ≡ a
or-none None = refl
or-none (Some x) = refl

-- ---- what is held

abbrev pub position_in : List Session → ℕ → ℕ
position_in open_ s = look (λ t. t.position) 0 open_ s

-- the session has written the action
abbrev pub owns : List Session → ℕ → ActionId → Bool
owns open_ s id = look (λ t. has_name t.written id) false open_ s

-- The open sessions stand there once each. What one has seen is the last number of its lines, which never fall; what it wrote is
-- told on them, and of no action two tell.
pub record IsTold (open_ : List Session) (lines : List SessionLine) : Type 0 where
  pub apart : Apart open_
  pub position : (s : ℕ) → position_in open_ s ≡ last_from 0 (numbers_on s lines)
  pub rises : (s : ℕ) → Rises 0 (numbers_on s lines)
  pub owned : (s : ℕ) (id : ActionId) → owns open_ s id ≡ has_name (written_in s lines) id
  pub writer : (s : ℕ) (id : ActionId) → owns open_ s id ≡ is_of s (writer_of lines id)

pub told-first : IsTold [] []
told-first = record { apart = tt; position = λ s. refl; rises = λ s. tt; owned = λ s id. refl; writer = λ s id. refl }

-- lines that tell of no write
pub record IsSilent (lines : List SessionLine) : Type 0 where
  pub written : (s : ℕ) → written_in s lines ≡ []
  pub writer : (id : ActionId) → writer_of lines id ≡ None

-- the sessions go on with such lines, by which what each has seen rises
pub record GoesOn (open_ later : List Session) (lines : List SessionLine) : Type 0 where
  pub apart : Apart later
  pub silent : IsSilent lines
  pub rises : (s : ℕ) → Rises (position_in open_ s) (numbers_on s lines)
  pub last : (s : ℕ) → position_in later s ≡ last_from (position_in open_ s) (numbers_on s lines)
  pub owns : (s : ℕ) (id : ActionId) → owns later s id ≡ owns open_ s id

pub goes-none : (open_ : List Session) → Apart open_ → GoesOn open_ open_ []
goes-none open_ apart = record {
  apart = apart;
  silent = record { written = λ s. refl; writer = λ id. refl };
  rises = λ s. tt;
  last = λ s. refl;
  owns = λ s id. refl;
}

pub told-on : (open_ later : List Session) (lines more : List SessionLine) → IsTold open_ lines → GoesOn open_ later more → IsTold later (lines ++ more)
told-on open_ later lines more is goes = record {
  apart = goes.apart;
  position = λ s. goes.last s ∙ ap (λ k. last_from k (numbers_on s more)) (is.position s)
      ∙ sym (last-append 0 (numbers_on s lines) (numbers_on s more)) ∙ ap (last_from 0) (sym (numbers-append s lines more));
  rises = λ s. subst (Rises 0) (sym (numbers-append s lines more))
      (rises-append 0 (numbers_on s lines) (numbers_on s more) (is.rises s) (subst (λ k. Rises k (numbers_on s more)) (is.position s) (goes.rises s)));
  owned = λ s id. goes.owns s id ∙ is.owned s id
      ∙ sym (ap (λ ids. has_name ids id) (written-append s lines more ∙ ap (λ ids. written_in s lines ++ ids) (goes.silent.written s) ∙ append-nil (written_in s lines)));
  writer = λ s id. goes.owns s id ∙ is.writer s id
      ∙ sym (ap (is_of s) (writer-append lines more id ∙ ap (or_else (writer_of lines id)) (goes.silent.writer id) ∙ or-none (writer_of lines id)));
}

-- ---- a write

wrote-position : (id : ActionId) (t : Token) → (wrote t id).position ≡ t.position
wrote-position id t = at (has_name t.written id) where
  at : (b : Bool) → (if b then t else record t { written = t.written ++ id ∷ [] }).position ≡ t.position
  at true = refl
  at false = refl

wrote-names : (id : ActionId) (t : Token) (x : ActionId) → has_name (wrote t id).written x ≡ (has_name t.written x || same_id x id)
wrote-names id t x = at (has_name t.written id) refl where
  or-false : (b : Bool) → (b || false) ≡ b
  or-false true = refl
  or-false false = refl

  known : has_name t.written id ≡ true → has_name t.written x ≡ (has_name t.written x || same_id x id)
  known there = elim (cases_Bool (same_id x id)) [
    | inl same ↦ (let is : has_name t.written x ≡ true = subst (λ y. has_name t.written y ≡ true) (sym (same_id-is x id same)) there in rw (is) refl)
    | inr other ↦ sym (ap (λ b. has_name t.written x || b) other ∙ or-false (has_name t.written x))
  ]

  at : (b : Bool) → has_name t.written id ≡ b → has_name (if b then t else record t { written = t.written ++ id ∷ [] }).written x ≡ (has_name t.written x || same_id x id)
  at true there = known there
  at false there = has_name-append t.written (id ∷ []) x ∙ ap (λ b. has_name t.written x || b) (or-false (same_id x id))

module _ (open_ : List Session) (lines : List SessionLine) (is : IsTold open_ lines) (t : ℕ) (id : ActionId) (stands : stands_in open_ t ≡ true) (fresh : writer_of lines id ≡ None) where
  abbrev after_write : List Session
  after_write = changing t (λ k. wrote k id) open_

  leaves : (s : ℕ) (k : Token) → (change_at t (λ k. wrote k id) s k).position ≡ k.position
  leaves s k = at (s == t) where
    at : (b : Bool) → (if b then wrote k id else k).position ≡ k.position
    at true = wrote-position id k
    at false = refl

  gains : (s : ℕ) (x : ActionId) (k : Token) → has_name (change_at t (λ k. wrote k id) s k).written x ≡ (has_name k.written x || ((s == t) && same_id x id))
  gains s x k = at (s == t) where
    or-false : (b : Bool) → b ≡ (b || false)
    or-false true = refl
    or-false false = refl

    at : (b : Bool) → has_name (if b then wrote k id else k).written x ≡ (has_name k.written x || (b && same_id x id))
    at true = wrote-names id k x
    at false = or-false (has_name k.written x)

  pub wrote-owns : (s : ℕ) (x : ActionId) → owns after_write s x ≡ (owns open_ s x || ((t == s) && same_id x id))
  wrote-owns s x =
      look-changing t (λ k. wrote k id) (λ k. has_name k.written x) false open_ s
      ∙ look-same (λ k. has_name (change_at t (λ k. wrote k id) s k).written x) (λ k. has_name k.written x || ((s == t) && same_id x id)) false (gains s x) open_ s
      ∙ look-or (λ k. has_name k.written x) ((s == t) && same_id x id) open_ s
      ∙ ap (λ b. owns open_ s x || b) (here (s == t) (t == s) refl refl) where
        here : (a b : Bool) → (s == t) ≡ a → (t == s) ≡ b → (stands_in open_ s && (a && same_id x id)) ≡ (b && same_id x id)
        here true true one two = ap (λ c. c && same_id x id) (ap (stands_in open_) (eqb-true s t one) ∙ stands)
        here false false one two = none (stands_in open_ s) where
          none : (c : Bool) → (c && false) ≡ false
          none true = refl
          none false = refl
        here true false one two = absurd (let clash : true ≡ false = sym (eq-eqb t s (sym (eqb-true s t one))) ∙ two in cc)
        here false true one two = absurd (let clash : true ≡ false = sym (eq-eqb s t (sym (eqb-true t s two))) ∙ one in cc)

  new-written : (s : ℕ) (x : ActionId) → has_name (written_in s (Wrote t id ∷ [])) x ≡ ((t == s) && same_id x id)
  new-written s x = at (t == s) where
    or-false : (b : Bool) → (b || false) ≡ b
    or-false true = refl
    or-false false = refl

    at : (b : Bool) → has_name (present ((if b then Some id else None) ∷ [])) x ≡ (b && same_id x id)
    at true = or-false (same_id x id)
    at false = refl

  or-false : (b : Bool) → (b || false) ≡ b
  or-false true = refl
  or-false false = refl

  new-writer : (s : ℕ) (x : ActionId) → (is_of s (writer_of lines x) || ((t == s) && same_id x id)) ≡ is_of s (or_else (writer_of lines x) (writer_of (Wrote t id ∷ []) x))
  new-writer s x = elim (cases_Bool (same_id x id)) [
    | inl same ↦
        let none : writer_of lines x ≡ None = ap (writer_of lines) (same_id-is x id same) ∙ fresh in
        let new : writer_of (Wrote t id ∷ []) x ≡ Some t = ap (λ b. first_some ((if b || false then Some t else None) ∷ [])) same in
        rw (none, new, same) (and-true (t == s))
    | inr other ↦
        let new : writer_of (Wrote t id ∷ []) x ≡ None = ap (λ b. first_some ((if b || false then Some t else None) ∷ [])) other in
        rw (new, other, or-none (writer_of lines x), and-false (t == s)) (or-false (is_of s (writer_of lines x)))
  ] where
    and-true : (b : Bool) → (b && true) ≡ b
    and-true true = refl
    and-true false = refl

    and-false : (b : Bool) → (b && false) ≡ false
    and-false true = refl
    and-false false = refl

  pub wrote-keeps : (s : ℕ) → position_in after_write s ≡ position_in open_ s
  wrote-keeps s = look-changing t (λ k. wrote k id) (λ k. k.position) 0 open_ s
      ∙ look-same (λ k. (change_at t (λ k. wrote k id) s k).position) (λ k. k.position) 0 (leaves s) open_ s

  pub told-wrote : IsTold after_write (lines ++ Wrote t id ∷ [])
  told-wrote = record {
    apart = apart-changing t (λ k. wrote k id) open_ is.apart;
    position = λ s. wrote-keeps s ∙ is.position s
        ∙ ap (last_from 0) (sym (numbers-append s lines (Wrote t id ∷ []) ∙ append-nil (numbers_on s lines)));
    rises = λ s. subst (Rises 0) (sym (numbers-append s lines (Wrote t id ∷ []) ∙ append-nil (numbers_on s lines))) (is.rises s);
    owned = λ s x. wrote-owns s x ∙ ap (λ b. b || ((t == s) && same_id x id)) (is.owned s x)
        ∙ sym (ap (λ ids. has_name ids x) (written-append s lines (Wrote t id ∷ [])) ∙ has_name-append (written_in s lines) (written_in s (Wrote t id ∷ [])) x
        ∙ ap (λ b. has_name (written_in s lines) x || b) (new-written s x));
    writer = λ s x. wrote-owns s x ∙ ap (λ b. b || ((t == s) && same_id x id)) (is.writer s x) ∙ new-writer s x ∙ ap (is_of s) (sym (writer-append lines (Wrote t id ∷ []) x));
  }

-- ---- the reply to an action

-- the line that is due of an action's writer, where it hasn't seen so much
abbrev pub due_from : (ℕ → ℕ) → ℕ → Option ℕ → List SessionLine
due_from seen place None = []
due_from seen place (Some s) = if nat_lt (seen s) place then At s place ∷ [] else []

abbrev pub due_line : List Session → ℕ → Option ℕ → List SessionLine
due_line open_ place w = due_from (λ s. position_in open_ s) place w

abbrev pub raised_lines : List Session → ActionId → ℕ → List SessionLine
raised_lines open_ id place = map (λ (o : Session). At o.id place) (filter (λ (o : Session). raises o.token id place) open_)

none-raised : (id : ActionId) (place : ℕ) (open_ : List Session) → Apart open_ → ((s : ℕ) → owns open_ s id ≡ false) → raised_lines open_ id place ≡ []
none-raised id place [] apart none = refl
none-raised id place (o ∷ open_) apart none =
    ap (λ b. map (λ (o : Session). At o.id place) (if b && nat_lt o.token.position place then o ∷ others else others)) (first (o.id == o.id) (eq-eqb o.id o.id refl) (none o.id))
    ∙ none-raised id place open_ apart.1 later where
      others : List Session
      others = filter (λ (o : Session). raises o.token id place) open_

      first : (b : Bool) → b ≡ true → (if b then has_name o.token.written id else owns open_ o.id id) ≡ false → has_name o.token.written id ≡ false
      first true is e = e
      first false is e = absurd (let clash : false ≡ true = is in cc)

      later : (s : ℕ) → owns open_ s id ≡ false
      later s = at (o.id == s) refl (none s) where
        at : (b : Bool) → (o.id == s) ≡ b → (if b then has_name o.token.written id else owns open_ s id) ≡ false → owns open_ s id ≡ false
        at true is e = look-none (λ t. has_name t.written id) false open_ s (ap (stands_in open_) (sym (eqb-true o.id s is)) ∙ apart.0)
        at false is e = e

-- the one session that wrote the action is told of its reply
pub raised-due : (id : ActionId) (place : ℕ) (open_ : List Session) (w : Option ℕ) → Apart open_ → ((s : ℕ) → owns open_ s id ≡ is_of s w) → raised_lines open_ id place ≡ due_line open_ place w
raised-due id place [] None apart owner = refl
raised-due id place [] (Some s) apart owner = absurd (let clash : false ≡ true = owner s ∙ eq-eqb s s refl in cc)
raised-due id place (o ∷ open_) w apart owner = at (has_name o.token.written id) refl (λ same. raised-due id place open_ w apart.1 same) where
  others : List Session
  others = filter (λ (o : Session). raises o.token id place) open_

  self : (o.id == o.id) ≡ true
  self = eq-eqb o.id o.id refl

  -- no session stands there twice, so none of the others is the first one
  not-first : (s : ℕ) → (o.id == s) ≡ true → owns open_ s id ≡ false
  not-first s is = look-none (λ t. has_name t.written id) false open_ s (ap (stands_in open_) (sym (eqb-true o.id s is)) ∙ apart.0)

  here : has_name o.token.written id ≡ is_of o.id w
  here = sym (ap (λ b. if b then has_name o.token.written id else owns open_ o.id id) self) ∙ owner o.id

  writer-is : (u : Option ℕ) → is_of o.id u ≡ true → u ≡ Some o.id
  writer-is None e = absurd (let clash : false ≡ true = e in cc)
  writer-is (Some t) e = ap Some (eqb-true t o.id e)

  rest-none : w ≡ Some o.id → (s : ℕ) → owns open_ s id ≡ false
  rest-none one s = by (o.id == s) refl (owner s ∙ ap (is_of s) one) where
    by : (b : Bool) → (o.id == s) ≡ b → (if b then has_name o.token.written id else owns open_ s id) ≡ (o.id == s) → owns open_ s id ≡ false
    by true is e = not-first s is
    by false is e = e ∙ is

  rest-same : has_name o.token.written id ≡ false → (s : ℕ) → owns open_ s id ≡ is_of s w
  rest-same out s = by (o.id == s) refl (owner s) where
    by : (b : Bool) → (o.id == s) ≡ b → (if b then has_name o.token.written id else owns open_ s id) ≡ is_of s w → owns open_ s id ≡ is_of s w
    by true is e = not-first s is ∙ sym out ∙ e
    by false is e = e

  past : (u : Option ℕ) → is_of o.id u ≡ false → due_line open_ place u ≡ due_line (o ∷ open_) place u
  past None e = refl
  past (Some t) e = ap (λ b. if nat_lt (if b then o.token.position else position_in open_ t) place then At t place ∷ [] else []) (sym (turned t e)) where
    turned : (t : ℕ) → (t == o.id) ≡ false → (o.id == t) ≡ false
    turned t e = elim (cases_Bool (o.id == t)) [
      | inl is ↦ absurd (let clash : true ≡ false = sym (eq-eqb t o.id (sym (eqb-true o.id t is))) ∙ e in cc)
      | inr is ↦ is
    ]

  at : (b : Bool) → has_name o.token.written id ≡ b → (((s : ℕ) → owns open_ s id ≡ is_of s w) → raised_lines open_ id place ≡ due_line open_ place w) →
      raised_lines (o ∷ open_) id place ≡ due_line (o ∷ open_) place w
  at true is rest =
      let one = writer-is w (sym here ∙ is) in
      ap (λ b. map (λ (o : Session). At o.id place) (if b && nat_lt o.token.position place then o ∷ others else others)) is
      ∙ test (nat_lt o.token.position place)
      ∙ sym (ap (due_line (o ∷ open_) place) one ∙ ap (λ b. if nat_lt (if b then o.token.position else position_in open_ o.id) place then At o.id place ∷ [] else []) self) where
        test : (c : Bool) → map (λ (o : Session). At o.id place) (if c then o ∷ others else others) ≡ (if c then At o.id place ∷ [] else [])
        test true = ap (λ ls. At o.id place ∷ ls) (none-raised id place open_ apart.1 (rest-none (writer-is w (sym here ∙ is))))
        test false = none-raised id place open_ apart.1 (rest-none (writer-is w (sym here ∙ is)))
  at false is rest =
      ap (λ b. map (λ (o : Session). At o.id place) (if b && nat_lt o.token.position place then o ∷ others else others)) is
      ∙ rest (rest-same is) ∙ past w (sym here ∙ is)

abbrev pub after_reply : List Session → ActionId → ℕ → List Session
after_reply open_ id place = map (changed (λ t. replied t id place)) open_

module _ (open_ : List Session) (id : ActionId) (place : ℕ) where
  abbrev h : ℕ → Token → Token
  h s k = replied k id place

  looked : {X : Type 0} (g : Token → X) (none : X) (s : ℕ) → look g none (after_reply open_ id place) s ≡ look (λ k. g (replied k id place)) none open_ s
  looked g none s = look-map (changed (λ t. replied t id place)) h (λ o. refl) (λ o. refl) g none open_ s

  -- what is written stays
  pub reply-owns : (s : ℕ) (x : ActionId) → owns (after_reply open_ id place) s x ≡ owns open_ s x
  reply-owns s x = looked (λ t. has_name t.written x) false s ∙ look-same (λ k. has_name (replied k id place).written x) (λ k. has_name k.written x) false each open_ s where
    each : (k : Token) → has_name (replied k id place).written x ≡ has_name k.written x
    each k = at (raises k id place) where
      at : (b : Bool) → has_name (if b then record k { position = place } else k).written x ≡ has_name k.written x
      at true = refl
      at false = refl

  -- what was seen rises to the place of an own action
  pub reply-position : (s : ℕ) → position_in (after_reply open_ id place) s ≡ (if owns open_ s id && nat_lt (position_in open_ s) place then place else position_in open_ s)
  reply-position s = looked (λ t. t.position) 0 s ∙ each open_ where
    one : (k : Token) → (replied k id place).position ≡ (if raises k id place then place else k.position)
    one k = at (raises k id place) where
      at : (b : Bool) → (if b then record k { position = place } else k).position ≡ (if b then place else k.position)
      at true = refl
      at false = refl

    each : (list : List Session) → look (λ k. (replied k id place).position) 0 list s ≡ (if owns list s id && nat_lt (position_in list s) place then place else position_in list s)
    each [] = refl
    each (o ∷ list) = at (o.id == s) (each list) where
      at : (b : Bool) → look (λ k. (replied k id place).position) 0 list s ≡ (if owns list s id && nat_lt (position_in list s) place then place else position_in list s) →
          (if b then (replied o.token id place).position else look (λ k. (replied k id place).position) 0 list s)
          ≡ (if (if b then has_name o.token.written id else owns list s id) && nat_lt (if b then o.token.position else position_in list s) place then place else (if b then o.token.position else position_in list s))
      at true rest = one o.token
      at false rest = rest

  numbers-due : (w : Option ℕ) (s : ℕ) → numbers_on s (due_line open_ place w) ≡ (if is_of s w && nat_lt (position_in open_ s) place then place ∷ [] else [])
  numbers-due None s = refl
  numbers-due (Some t) s = at (t == s) refl where
    at : (b : Bool) → (t == s) ≡ b → numbers_on s (due_line open_ place (Some t)) ≡ (if b && nat_lt (position_in open_ s) place then place ∷ [] else [])
    at true is = ap (λ n. numbers_on s (if nat_lt (position_in open_ n) place then At t place ∷ [] else [])) (eqb-true t s is) ∙ test (nat_lt (position_in open_ s) place) where
      test : (c : Bool) → numbers_on s (if c then At t place ∷ [] else []) ≡ (if c then place ∷ [] else [])
      test true = ap (λ b. present ((if b then Some place else None) ∷ [])) is
      test false = refl
    at false is = test (nat_lt (position_in open_ t) place) where
      test : (c : Bool) → numbers_on s (if c then At t place ∷ [] else []) ≡ []
      test true = ap (λ b. present ((if b then Some place else None) ∷ [])) is
      test false = refl

  silent-due : (w : Option ℕ) → IsSilent (due_line open_ place w)
  silent-due None = record { written = λ s. refl; writer = λ x. refl }
  silent-due (Some t) = at (nat_lt (position_in open_ t) place) where
    at : (c : Bool) → IsSilent (if c then At t place ∷ [] else [])
    at true = record { written = λ s. refl; writer = λ x. refl }
    at false = record { written = λ s. refl; writer = λ x. refl }

  pub goes-reply : (w : Option ℕ) → Apart open_ → ((s : ℕ) → owns open_ s id ≡ is_of s w) → GoesOn open_ (after_reply open_ id place) (due_line open_ place w)
  goes-reply w apart owner = record {
    apart = apart-map (changed (λ t. replied t id place)) (λ o. refl) open_ apart;
    silent = silent-due w;
    rises = λ s. subst (Rises (position_in open_ s)) (sym (numbers s)) (up s (owns open_ s id) (nat_lt (position_in open_ s) place) refl);
    last = λ s. reply-position s ∙ end s (owns open_ s id && nat_lt (position_in open_ s) place) ∙ ap (last_from (position_in open_ s)) (sym (numbers s));
    owns = reply-owns;
  } where
    numbers : (s : ℕ) → numbers_on s (due_line open_ place w) ≡ (if owns open_ s id && nat_lt (position_in open_ s) place then place ∷ [] else [])
    numbers s = numbers-due w s ∙ ap (λ b. if b && nat_lt (position_in open_ s) place then place ∷ [] else []) (sym (owner s))

    up : (s : ℕ) (a b : Bool) → nat_lt (position_in open_ s) place ≡ b → Rises (position_in open_ s) (if a && b then place ∷ [] else [])
    up s true true is = (let less : position_in open_ s < place = ltb-true (position_in open_ s) place is in omega arith, tt)
    up s true false is = tt
    up s false b is = tt

    end : (s : ℕ) (b : Bool) → (if b then place else position_in open_ s) ≡ last_from (position_in open_ s) (if b then place ∷ [] else [])
    end s true = refl
    end s false = refl

-- ---- a read

above : (pos low : ℕ) → nat_lt pos low ≡ false → low ≤ pos
above pos low is = elim (cases_lt pos low) [
  | inl lt ↦ absurd (let clash : true ≡ false = sym (lt-ltb pos low lt) ∙ is in cc)
  | inr le ↦ le
]

-- the line of a read
abbrev pub read_line : ℕ → Answer → ℕ → ℕ → List SessionLine
read_line s a pos low = if nat_lt pos low then Behind s pos low ∷ [] else Answered s a pos ∷ []

pub record ReadsOn (open_ : List Session) (t : ℕ) (a : Answer) (pos : ℕ) (m : SessionsNoted) : Type 0 where
  pub lines : m.lines ≡ read_line t a pos (position_in open_ t)
  pub goes : GoesOn open_ m.sessions m.lines
  pub stands : (s : ℕ) → stands_in m.sessions s ≡ stands_in open_ s

module _ (open_ : List Session) (apart : Apart open_) (t : ℕ) (a : Answer) (pos : ℕ) (k : Token) (is : token_of open_ t ≡ Some k) where
  pub goes-read : ReadsOn open_ t a pos (read_as open_ t a pos (read k pos))
  goes-read = subst (λ n. ReadsOn open_ t a pos (read_as open_ t a pos (if nat_lt pos n then Err (record { have = pos; want = n }) else Ok (record k { position = pos })))) held
      (at (nat_lt pos (position_in open_ t)) refl) where
        low : ℕ
        low = position_in open_ t

        held : low ≡ k.position
        held = look-token (λ t. t.position) 0 open_ t k is

        new : Token
        new = record k { position = pos }

        there : stands_in open_ t ≡ true
        there = sym (stands-token open_ t) ∙ ap is_some is

        seen-behind : (s : ℕ) → position_in (changing t (λ old. new) open_) s ≡ (if t == s then pos else position_in open_ s)
        seen-behind s = look-changing t (λ old. new) (λ k. k.position) 0 open_ s ∙ by (s == t) (t == s) refl refl where
          by : (b c : Bool) → (s == t) ≡ b → (t == s) ≡ c → look (λ k. (if b then new else k).position) 0 open_ s ≡ (if c then pos else position_in open_ s)
          by true true one two = ap (λ n. look (λ k. pos) 0 open_ n) (eqb-true s t one) ∙ look-set pos 0 open_ t there
          by false false one two = refl
          by true false one two = absurd (let clash : true ≡ false = sym (eq-eqb t s (sym (eqb-true s t one))) ∙ two in cc)
          by false true one two = absurd (let clash : true ≡ false = sym (eq-eqb s t (sym (eqb-true t s two))) ∙ one in cc)

        owns-behind : (s : ℕ) (x : ActionId) → owns (changing t (λ old. new) open_) s x ≡ owns open_ s x
        owns-behind s x = look-changing t (λ old. new) (λ k. has_name k.written x) false open_ s ∙ by (s == t) refl where
          by : (b : Bool) → (s == t) ≡ b → look (λ old. has_name (if b then new else old).written x) false open_ s ≡ owns open_ s x
          by true one = ap (λ n. look (λ old. has_name k.written x) false open_ n) (eqb-true s t one) ∙ look-set (has_name k.written x) false open_ t there
              ∙ sym (look-token (λ t. has_name t.written x) false open_ t k is) ∙ ap (λ n. owns open_ n x) (sym (eqb-true s t one))
          by false one = refl

        up : (s : ℕ) → low ≤ pos → (b : Bool) → (t == s) ≡ b → Rises (position_in open_ s) (present ((if b then Some pos else None) ∷ []))
        up s enough true one = (subst (λ n. position_in open_ n ≤ pos) (eqb-true t s one) enough, tt)
        up s enough false one = tt

        end : (s : ℕ) (b : Bool) → (if b then pos else position_in open_ s) ≡ last_from (position_in open_ s) (present ((if b then Some pos else None) ∷ []))
        end s true = refl
        end s false = refl

        at : (b : Bool) → nat_lt pos low ≡ b → ReadsOn open_ t a pos (read_as open_ t a pos (if b then Err (record { have = pos; want = low }) else Ok new))
        at true e = record {
          lines = sym (ap (λ b. if b then Behind t pos low ∷ [] else Answered t a pos ∷ []) e);
          goes = record { apart = apart; silent = record { written = λ s. refl; writer = λ x. refl }; rises = λ s. tt; last = λ s. refl; owns = λ s x. refl };
          stands = λ s. refl;
        }
        at false e = record {
          lines = sym (ap (λ b. if b then Behind t pos low ∷ [] else Answered t a pos ∷ []) e);
          goes = record {
            apart = apart-changing t (λ old. new) open_ apart;
            silent = record { written = λ s. refl; writer = λ x. refl };
            rises = λ s. up s (above pos low e) (t == s) refl;
            last = λ s. seen-behind s ∙ end s (t == s);
            owns = owns-behind;
          };
          stands = stands-changing t (λ old. new) open_;
        }

-- ---- an opening

pub goes-opened : (open_ : List Session) (t : ℕ) → Apart open_ → stands_in open_ t ≡ false → GoesOn open_ (opened open_ t) []
goes-opened open_ t apart none = record {
  apart = apart-new open_ t apart none;
  silent = record { written = λ s. refl; writer = λ x. refl };
  rises = λ s. tt;
  last = λ s. look-new (λ t. t.position) 0 refl open_ t s;
  owns = λ s x. look-new (λ t. has_name t.written x) false refl open_ t s;
}
