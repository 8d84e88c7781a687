-- To change what stands in the place of a session is to change that session, as none is open twice.
use Rattle.std.proofs.Common.{◌≡◌, ◌≤◌, ◌<◌, ℕ, zero, suc, ◌+◌, Bool, true, false, not, cond, List, [], ◌∷◌, ◌++◌, length, set, get_or, take, drop, append_assoc, Some, None, is_some, option_map, Ok, Err, Result, refl, sym, ap, subst, ◌∙◌, arith, eqb-true, ne_eqb, if◌then◌else◌, nat_lt}
use Rattle.std.specs.Prelude.{◌==◌, ◌||◌, map, filter, position, find}
use Rattle.std.specs.List.{list_any, position_or_len}
use Rattle.std.proofs.lemmas.Bool.{eqb-false, ltb-false}
use Rattle.std.proofs.lemmas.List.{set-get_or}
use Rattle.std.proofs.lemmas.List.Quantifiers.{position-Some}
use Rattle.cg_base.specs.declared.action_id.ActionId.{ActionId}
use Rattle.cg_action.specs.declared.answer.Answer.{Answer}
use Rattle.cg_group.specs.declared.reason.Reason.TheVariants.{SessionUsed}
use Rattle.cg_group.specs.Refusals.{refuse}
use Rattle.cg_session.specs.declared.token.BehindErr.{BehindErr}
use Rattle.cg_session.specs.Token.{Token, raises, read, replied}
use Rattle.cg_session_list.specs.declared.session.Session.{Session}
use Rattle.cg_session_list.specs.declared.session_line.SessionLine.{SessionLine}
use Rattle.cg_session_list.specs.declared.session_line.SessionLine.TheVariants.{At}
use Rattle.cg_session_list.specs.Apart.{AreApart, AreDistinct, ids}
use Rattle.cg_session_list.specs.Parts.{noted, read_line, after_read, reads, told_to}
use Rattle.cg_session_list.specs.Sessions.{changed, changing, session_used, read_as, with_reply}

abbrev has_id : ℕ → List Session → Bool
has_id s sessions = list_any (λ m. m == s) (map (λ (o : Session). o.id) sessions)

-- nothing changes where the session isn't open
changing-none : (s : ℕ) (change : Token → Token) (sessions : List Session) → has_id s sessions ≡ false → changing s change sessions ≡ sessions
changing-none s change [] none = refl
changing-none s change (o ∷ sessions) none = by (o.id == s) none (changing-none s change sessions) where
  by : (b : Bool) → (b || has_id s sessions) ≡ false → (has_id s sessions ≡ false → changing s change sessions ≡ sessions) →
      ((if b then changed change o else o) ∷ changing s change sessions) ≡ o ∷ sessions
  by true isnt more = absurd cc
  by false isnt more = ap (λ (rest : List Session). o ∷ rest) (more isnt)

has-there : (s : ℕ) (sessions : List Session) (i : ℕ) (d : Session) → i < length sessions → ((get_or sessions i d).id == s) ≡ true → has_id s sessions ≡ true
has-there s [] i d less here = absurd (omega arith)
has-there s (o ∷ sessions) zero d less here = rw here refl
has-there s (o ∷ sessions) (suc i) d less here = by (o.id == s) (has-there s sessions i d (omega arith) here) where
  by : (b : Bool) → has_id s sessions ≡ true → (b || has_id s sessions) ≡ true
  by true more = refl
  by false more = more

pub changing-at : (s : ℕ) (change : Token → Token) (sessions : List Session) (i : ℕ) (d y : Session) → AreApart sessions → i < length sessions →
    ((get_or sessions i d).id == s) ≡ true → y ≡ changed change (get_or sessions i d) → set sessions i y ≡ changing s change sessions
changing-at s change [] i d y apart less here is = absurd (omega arith)
changing-at s change (o ∷ sessions) zero d y apart less here is =
    let none : has_id s sessions ≡ false = subst (λ (n : ℕ). has_id n sessions ≡ false) (eqb-true o.id s here) apart.0 in
    rw (here, is, changing-none s change sessions none) refl
changing-at s change (o ∷ sessions) (suc i) d y apart less here is =
    by (o.id == s) (λ (same : (o.id == s) ≡ true). there same) refl (changing-at s change sessions i d y apart.1 (omega arith) here is) where
      there : (o.id == s) ≡ true → false ≡ true
      there same =
          sym (subst (λ (n : ℕ). has_id n sessions ≡ false) (eqb-true o.id s same) apart.0) ∙ has-there s sessions i d (omega arith) here

      by : (b : Bool) → ((o.id == s) ≡ true → false ≡ true) → (o.id == s) ≡ b → set sessions i y ≡ changing s change sessions →
          o ∷ set sessions i y ≡ (if b then changed change o else o) ∷ changing s change sessions
      by true isnt e more = absurd (let f : false ≡ true = isnt e in cc)
      by false isnt e more = ap (λ (rest : List Session). o ∷ rest) more

-- ---- what is found

find-none : (s : ℕ) (sessions : List Session) → has_id s sessions ≡ false → find (λ (o : Session). o.id == s) sessions ≡ None
find-none s [] none = refl
find-none s (o ∷ sessions) none = by (o.id == s) none (find-none s sessions) where
  by : (b : Bool) → (b || has_id s sessions) ≡ false → (has_id s sessions ≡ false → find (λ (o : Session). o.id == s) sessions ≡ None) →
      cond b (Some o) (find (λ (o : Session). o.id == s) sessions) ≡ None
  by true isnt more = absurd cc
  by false isnt more = more isnt

find-at : (s : ℕ) (sessions : List Session) (i : ℕ) (d : Session) → AreApart sessions → i < length sessions → ((get_or sessions i d).id == s) ≡ true →
    find (λ (o : Session). o.id == s) sessions ≡ Some (get_or sessions i d)
find-at s [] i d apart less here = absurd (omega arith)
find-at s (o ∷ sessions) zero d apart less here = rw here refl
find-at s (o ∷ sessions) (suc i) d apart less here = by (o.id == s) there refl (find-at s sessions i d apart.1 (omega arith) here) where
  there : (o.id == s) ≡ true → false ≡ true
  there same =
      sym (subst (λ (n : ℕ). has_id n sessions ≡ false) (eqb-true o.id s same) apart.0) ∙ has-there s sessions i d (omega arith) here

  by : (b : Bool) → ((o.id == s) ≡ true → false ≡ true) → (o.id == s) ≡ b → find (λ (o : Session). o.id == s) sessions ≡ Some (get_or sessions i d) →
      cond b (Some o) (find (λ (o : Session). o.id == s) sessions) ≡ Some (get_or sessions i d)
  by true isnt e more = absurd (let f : false ≡ true = isnt e in cc)
  by false isnt e more = more

none-behind : (s : ℕ) (sessions : List Session) → length sessions ≤ position_or_len (λ (o : Session). o.id == s) sessions → has_id s sessions ≡ false
none-behind s [] le = refl
none-behind s (o ∷ sessions) le = by (o.id == s) le (none-behind s sessions) where
  by : (b : Bool) → suc (length sessions) ≤ cond (not b) (1 + position_or_len (λ (o : Session). o.id == s) sessions) 0 →
      (length sessions ≤ position_or_len (λ (o : Session). o.id == s) sessions → has_id s sessions ≡ false) → (b || has_id s sessions) ≡ false
  by true le more = absurd (omega arith)
  by false le more = more (omega arith)

place-none : (s : ℕ) (sessions : List Session) → position (λ (o : Session). o.id == s) sessions ≡ None → has_id s sessions ≡ false
place-none s sessions none = by (nat_lt (position_or_len (λ (o : Session). o.id == s) sessions) (length sessions)) refl none where
  by : (b : Bool) → nat_lt (position_or_len (λ (o : Session). o.id == s) sessions) (length sessions) ≡ b →
      cond b (Some (position_or_len (λ (o : Session). o.id == s) sessions)) None ≡ None → has_id s sessions ≡ false
  by true e isnt = absurd cc
  by false e isnt = none-behind s sessions (ltb-false (position_or_len (λ (o : Session). o.id == s) sessions) (length sessions) e)

-- ---- what calls come to

-- the session wrote an action, or isn't open
pub written-at : (s : ℕ) (change : Token → Token) (sessions : List Session) (i : ℕ) (d : Session) (t : Token) → AreApart sessions →
    position (λ (o : Session). o.id == s) sessions ≡ Some i → t ≡ change (get_or sessions i d).token →
    set sessions i (record { id = (get_or sessions i d).id; token = t }) ≡ changing s change sessions
written-at s change sessions i d t apart at is =
    let there = position-Some (λ (o : Session). o.id == s) sessions i d at in
    changing-at s change sessions i d (record { id = (get_or sessions i d).id; token = t }) apart there.0 there.1 (ap (λ (t : Token). record { id = (get_or sessions i d).id; token = t }) is)

pub written-none : (s : ℕ) (change : Token → Token) (sessions : List Session) → position (λ (o : Session). o.id == s) sessions ≡ None →
    sessions ≡ changing s change sessions
written-none s change sessions none = sym (changing-none s change sessions (place-none s sessions none))

-- the session has read, or was told what it has seen
pub read-at : (s : ℕ) (sessions : List Session) (i : ℕ) (d : Session) (answer : Answer) (pos : ℕ) (t : Token) (line : SessionLine) → AreApart sessions →
    position (λ (o : Session). o.id == s) sessions ≡ Some i → line ≡ read_line s answer pos (read (get_or sessions i d).token pos) →
    t ≡ after_read (get_or sessions i d).token (read (get_or sessions i d).token pos) →
    noted (set sessions i (record { id = (get_or sessions i d).id; token = t })) (line ∷ []) ≡ reads sessions s answer pos
read-at s sessions i d answer pos t line apart at told is =
    let there = position-Some (λ (o : Session). o.id == s) sessions i d at in
    let found : find (λ (o : Session). o.id == s) sessions ≡ Some (get_or sessions i d) = find-at s sessions i d apart there.0 there.1 in
    rw found (by (read (get_or sessions i d).token pos) told is there) where
      old : Session
      old = get_or sessions i d

      by : (r : Result Token BehindErr) → line ≡ read_line s answer pos r → t ≡ after_read old.token r → (i < length sessions) × ((old.id == s) ≡ true) × ((k : ℕ) → k < i → ((get_or sessions k d).id == s) ≡ false) →
          noted (set sessions i (record { id = old.id; token = t })) (line ∷ []) ≡ read_as sessions s answer pos r
      by (Ok token) told is there =
          rw (told, changing-at s (λ (old : Token). token) sessions i d (record { id = old.id; token = t }) apart there.0 there.1 (ap (λ (t : Token). record { id = old.id; token = t }) is)) refl
      by (Err b) told is there = rw (told, is, set-get_or sessions i d) refl

pub read-none : (s : ℕ) (sessions : List Session) (answer : Answer) (pos : ℕ) → position (λ (o : Session). o.id == s) sessions ≡ None →
    noted sessions [] ≡ reads sessions s answer pos
read-none s sessions answer pos none = rw (find-none s sessions (place-none s sessions none)) refl

-- ---- none is open twice

pub ids-apart : (a b : List Session) → ids b ≡ ids a → AreApart a → AreApart b
ids-apart a b same apart = subst AreDistinct (sym same) apart

pub ids-set : (sessions : List Session) (i : ℕ) (d : Session) (t : Token) → ids (set sessions i (record { id = (get_or sessions i d).id; token = t })) ≡ ids sessions
ids-set [] i d t = refl
ids-set (o ∷ sessions) zero d t = refl
ids-set (o ∷ sessions) (suc i) d t = ap (λ (rest : List ℕ). o.id ∷ rest) (ids-set sessions i d t)

-- a session that isn't open is opened
unfound : (s : ℕ) (sessions : List Session) → session_used sessions s ≡ None → has_id s sessions ≡ false
unfound s [] unused = refl
unfound s (o ∷ sessions) unused = by (o.id == s) unused (unfound s sessions) where
  by : (b : Bool) → refuse (is_some (option_map (λ (o : Session). o.token) (cond b (Some o) (find (λ (o : Session). o.id == s) sessions)))) (SessionUsed s) ≡ None →
      (session_used sessions s ≡ None → has_id s sessions ≡ false) → (b || has_id s sessions) ≡ false
  by true isnt more = absurd cc
  by false isnt more = more isnt

has-last : (n : ℕ) (sessions : List Session) (o : Session) → has_id n sessions ≡ false → (o.id == n) ≡ false → has_id n (sessions ++ o ∷ []) ≡ false
has-last n [] o none other = rw other refl
has-last n (first ∷ sessions) o none other = by (first.id == n) none (λ (none : has_id n sessions ≡ false). has-last n sessions o none other) where
  by : (b : Bool) → (b || has_id n sessions) ≡ false → (has_id n sessions ≡ false → has_id n (sessions ++ o ∷ []) ≡ false) → (b || has_id n (sessions ++ o ∷ [])) ≡ false
  by true isnt more = absurd cc
  by false isnt more = more isnt

apart-behind : (sessions : List Session) (o : Session) → has_id o.id sessions ≡ false → AreApart sessions → AreApart (sessions ++ o ∷ [])
apart-behind [] o none apart = (refl, tt)
apart-behind (first ∷ sessions) o none apart =
    let other : (first.id == o.id) ≡ false = by_first (first.id == o.id) none in (
      has-last first.id sessions o apart.0 (ne_eqb o.id first.id (λ (e : o.id ≡ first.id). eqb-false first.id o.id other (sym e))),
      apart-behind sessions o (by_rest (first.id == o.id) none) apart.1,
    ) where
      by_first : (b : Bool) → (b || has_id o.id sessions) ≡ false → b ≡ false
      by_first true isnt = absurd cc
      by_first false isnt = refl

      by_rest : (b : Bool) → (b || has_id o.id sessions) ≡ false → has_id o.id sessions ≡ false
      by_rest true isnt = absurd cc
      by_rest false isnt = isnt

pub apart-opened : (sessions : List Session) (o : Session) → session_used sessions o.id ≡ None → AreApart sessions → AreApart (sessions ++ o ∷ [])
apart-opened sessions o unused apart = apart-behind sessions o (unfound o.id sessions unused) apart

-- ---- replies

-- it hears of the reply as it was
pub reply-next : (change : Token → Token) (sessions : List Session) (i : ℕ) (d : Session) (seen : List Session) → i < length sessions →
    seen ≡ map (changed change) (take i sessions) ++ drop i sessions → get_or seen i d ≡ get_or sessions i d
reply-next change [] i d seen less is = absurd (omega arith)
reply-next change (o ∷ sessions) zero d seen less is = rw is refl
reply-next change (o ∷ sessions) (suc i) d seen less is =
    rw is (reply-next change sessions i d (map (changed change) (take i sessions) ++ drop i sessions) (omega arith) refl)

pub reply-step : (change : Token → Token) (sessions : List Session) (i j : ℕ) (d o : Session) (seen : List Session) → j ≡ suc i → i < length sessions →
    seen ≡ map (changed change) (take i sessions) ++ drop i sessions → o ≡ changed change (get_or sessions i d) →
    set seen i o ≡ map (changed change) (take j sessions) ++ drop j sessions
reply-step change [] i j d o seen next less is told = absurd (omega arith)
reply-step change (first ∷ sessions) zero j d o seen next less is told = rw (next, is, told) refl
reply-step change (first ∷ sessions) (suc i) j d o seen next less is told =
    rw (next, is) (ap (λ (rest : List Session). changed change first ∷ rest)
    (reply-step change sessions i (suc i) d o (map (changed change) (take i sessions) ++ drop i sessions) refl (omega arith) refl told))

-- the lines so far
told-step : (id : ActionId) (place : ℕ) (sessions : List Session) (i : ℕ) (d : Session) → i < length sessions →
    map (λ (o : Session). At o.id place) (filter (λ (o : Session). raises o.token id place) (take (suc i) sessions))
    ≡ map (λ (o : Session). At o.id place) (filter (λ (o : Session). raises o.token id place) (take i sessions)) ++ told_to (get_or sessions i d) id place
told-step id place [] i d less = absurd (omega arith)
told-step id place (o ∷ sessions) zero d less = by (raises o.token id place) where
  by : (b : Bool) → map (λ (o : Session). At o.id place) (if b then o ∷ [] else []) ≡ (if b then At o.id place ∷ [] else [])
  by true = refl
  by false = refl
told-step id place (o ∷ sessions) (suc i) d less = by (raises o.token id place) (told-step id place sessions i d (omega arith)) where
  behind : ℕ → List Session
  behind n = filter (λ (o : Session). raises o.token id place) (take n sessions)

  by : (b : Bool) → map (λ (o : Session). At o.id place) (behind (suc i)) ≡ map (λ (o : Session). At o.id place) (behind i) ++ told_to (get_or sessions i d) id place →
      map (λ (o : Session). At o.id place) (if b then o ∷ behind (suc i) else behind (suc i))
      ≡ map (λ (o : Session). At o.id place) (if b then o ∷ behind i else behind i) ++ told_to (get_or sessions i d) id place
  by true more = ap (λ (rest : List SessionLine). At o.id place ∷ rest) more
  by false more = more

pub lines-step : (id : ActionId) (place : ℕ) (sessions seen : List Session) (i j : ℕ) (d : Session) (first lines more : List SessionLine) → j ≡ suc i → i < length sessions →
    get_or seen i d ≡ get_or sessions i d →
    lines ≡ first ++ map (λ (o : Session). At o.id place) (filter (λ (o : Session). raises o.token id place) (take i sessions)) →
    more ≡ lines ++ told_to (get_or seen i d) id place →
    more ≡ first ++ map (λ (o : Session). At o.id place) (filter (λ (o : Session). raises o.token id place) (take j sessions))
lines-step id place sessions seen i j d first lines more next less there is told =
    let so_far = map (λ (o : Session). At o.id place) (filter (λ (o : Session). raises o.token id place) (take i sessions)) in
    rw (next, told-step id place sessions i d less)
    (told ∙ ap (λ (o : Session). lines ++ told_to o id place) there ∙ ap (λ (lines : List SessionLine). lines ++ told_to (get_or sessions i d) id place) is
    ∙ append_assoc first so_far (told_to (get_or sessions i d) id place))

-- the numbers stay
pub ids-heard : (change : Token → Token) (sessions : List Session) (i : ℕ) (d new : Session) → new ≡ changed change (get_or sessions i d) → i < length sessions →
    ids (set sessions i new) ≡ ids sessions
ids-heard change [] i d new told less = absurd (omega arith)
ids-heard change (first ∷ sessions) zero d new told less = rw told refl
ids-heard change (first ∷ sessions) (suc i) d new told less = ap (λ (rest : List ℕ). first.id ∷ rest) (ids-heard change sessions i d new told (omega arith))

-- what a reply has come to
pub with-reply : (sessions new : List Session) (lines more : List SessionLine) (id : ActionId) (place : ℕ) → new ≡ map (changed (λ t. replied t id place)) sessions →
    more ≡ lines ++ map (λ (o : Session). At o.id place) (filter (λ (o : Session). raises o.token id place) sessions) →
    noted new more ≡ with_reply (noted sessions lines) id place
with-reply sessions new lines more id place seen told = λ i. record { sessions = seen i; lines = told i }
