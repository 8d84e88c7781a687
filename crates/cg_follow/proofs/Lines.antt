-- A line reads as an event of followers exactly where its tokens are those of the event's line: the parts behind its
-- word are those of an event of a schedule.
use Rattle.std.proofs.Common.{◌≡◌, ℕ, Bool, true, false, cond, List, [], ◌∷◌, ◌++◌, Option, Some, None, Result, Ok, Err, refl, sym, ap, subst, ◌∙◌, codes}
use Rattle.std.specs.Prelude.{◌↔◌, decimal, option_map}
use Rattle.std.specs.Str.{is_utf8}
use Rattle.std.proofs.lemmas.Slice.Eq.{bytes_eq-Decides}
use Rattle.cg_text.specs.Order.{same_text}
use Rattle.cg_text.specs.Tokens.{is_blank, is_word, ends_word, is_passed_over, tokens}
use Rattle.cg_action.specs.Print.{query_text}
use Rattle.cg_schedule.specs.declared.event.Event.{Event}
use Rattle.cg_schedule.specs.declared.event.Event.TheVariants as schedule
use Rattle.cg_schedule.specs.declared.fault.LineFault.{LineFault}
use Rattle.cg_schedule.specs.Fault.{not_utf8}
use Rattle.cg_schedule.specs.Reading.{Reading, go_on, ◌>>=◌, done, ended, whole}
use Rattle.cg_schedule.specs.Part.{number_part, id_part, count_part, fill_part}
use Rattle.cg_schedule.specs.Command.{query_reading}
use Rattle.cg_schedule.specs.Own.{some_read, after_word, tokens_reading}
use Rattle.cg_schedule.specs.Limits.{IsEvent}
use Rattle.cg_schedule.specs.Line.{word_text, event_word, leave_reading, transfer_reading, stop_reading as schedule_stop, order_reading as schedule_order, weak_reading as schedule_weak, event_reading as schedule_reading}
use Rattle.cg_schedule.specs.Print.{fill_text, line_of as schedule_line}
use Rattle.cg_follow.specs.declared.event.FollowEvent.{FollowEvent}
use Rattle.cg_follow.specs.declared.event.FollowEvent.TheVariants as event
use Rattle.cg_follow.specs.declared.word.FollowWord.{FollowWord}
use Rattle.cg_follow.specs.declared.word.FollowWord.TheVariants.{Follower, Feed, Fstop, Frecover, Fweak}
use Rattle.cg_follow.specs.Line.{word_of, make_reading, feed_reading, stop_reading, recover_reading, weak_reading, event_reading, follow_reading}
use Rattle.cg_follow.specs.Print.{line_of}
use Rattle.cg_follow.specs.LineLaws.{IsFollowEvent, ReadsAs, ExactLines}
use Rattle.cg_base.specs.ListLaws.{same_rest}
use Rattle.cg_schedule.specs.PartLaws.{read_as, same_read, Given}

-- the laws of tokens, and of the parts of a schedule's lines
pub record Known : Type 0 where
  pub blank : (byte : ℕ) (rest : List ℕ) → is_blank byte ≡ true → tokens (byte ∷ rest) ≡ tokens rest
  pub word : (word rest : List ℕ) → is_word word ≡ true → ends_word rest ≡ true →
      tokens (word ++ rest) ≡ word ∷ tokens rest
  pub parts : (e : Event) (parts : List (List ℕ)) → (whole (schedule_reading (event_word e)) parts ≡ Ok e) ↔
      (IsEvent e × (tokens (schedule_line e) ≡ word_text (event_word e) ∷ parts))

-- ---- the event of a schedule with the same parts

abbrev twin : FollowEvent → Event
twin (event.Follower f p) = schedule.Leave f p
twin (event.Feed p f count) = schedule.Transfer p f count
twin (event.Stop f call fill) = schedule.Stop f call fill
twin (event.Recover f) = schedule.Order f
twin (event.Weak f query) = schedule.Weak f query

abbrev word_in : FollowEvent → FollowWord
word_in (event.Follower f p) = Follower
word_in (event.Feed p f count) = Feed
word_in (event.Stop f call fill) = Fstop
word_in (event.Recover f) = Frecover
word_in (event.Weak f query) = Fweak

abbrev text_of : FollowWord → List ℕ
text_of Follower = codes "follower"
text_of Feed = codes "feed"
text_of Fstop = codes "fstop"
text_of Frecover = codes "frecover"
text_of Fweak = codes "fweak"

-- the parts behind the word, behind a blank each
abbrev behind_word : FollowEvent → List ℕ
behind_word (event.Follower f p) = (decimal f ++ codes " ") ++ decimal p
behind_word (event.Feed p f count) = (((decimal p ++ codes " ") ++ decimal f) ++ codes " ") ++ decimal count
behind_word (event.Stop f call fill) = (((decimal f ++ codes " ") ++ decimal call) ++ codes " ") ++ fill_text fill
behind_word (event.Recover f) = decimal f
behind_word (event.Weak f query) = (decimal f ++ codes " ") ++ query_text query

line_is : (e : FollowEvent) → line_of e ≡ text_of (word_in e) ++ 32 ∷ behind_word e
line_is (event.Follower f p) = refl
line_is (event.Feed p f count) = refl
line_is (event.Stop f call fill) = refl
line_is (event.Recover f) = refl
line_is (event.Weak f query) = refl

twin_line_is : (e : FollowEvent) → schedule_line (twin e) ≡ word_text (event_word (twin e)) ++ 32 ∷ behind_word e
twin_line_is (event.Follower f p) = refl
twin_line_is (event.Feed p f count) = refl
twin_line_is (event.Stop f call fill) = refl
twin_line_is (event.Recover f) = refl
twin_line_is (event.Weak f query) = refl

word_is : (w : FollowWord) → is_word (text_of w) ≡ true
word_is Follower = refl
word_is Feed = refl
word_is Fstop = refl
word_is Frecover = refl
word_is Fweak = refl

twin_word_is : (e : FollowEvent) → is_word (word_text (event_word (twin e))) ≡ true
twin_word_is (event.Follower f p) = refl
twin_word_is (event.Feed p f count) = refl
twin_word_is (event.Stop f call fill) = refl
twin_word_is (event.Recover f) = refl
twin_word_is (event.Weak f query) = refl

within_into : (e : FollowEvent) → IsEvent (twin e) → IsFollowEvent e
within_into (event.Follower f p) is = is
within_into (event.Feed p f count) is = is
within_into (event.Stop f call fill) is = is
within_into (event.Recover f) is = is
within_into (event.Weak f query) is = is

within_from : (e : FollowEvent) → IsFollowEvent e → IsEvent (twin e)
within_from (event.Follower f p) is = is
within_from (event.Feed p f count) is = is
within_from (event.Stop f call fill) is = is
within_from (event.Recover f) is = is
within_from (event.Weak f query) is = is

-- the event of followers with the same parts
abbrev back : Event → FollowEvent
back (schedule.Leave f p) = event.Follower f p
back (schedule.Transfer p f count) = event.Feed p f count
back (schedule.Stop f call fill) = event.Stop f call fill
back (schedule.Weak f query) = event.Weak f query
back (schedule.Order f) = event.Recover f
back other = event.Recover 0

-- ---- parts are read alike

-- one part, and what two readings make of it
one_found : {X E F : Type 0} (made : X → E) (there : X → F) (e : E) (r : Given X) →
    ended (go_on r (λ x. done (made x))) ≡ Ok e
    → (x : X) × (made x ≡ e) × (ended (go_on r (λ x. done (there x))) ≡ Ok (there x))
one_found made there e (Ok (x, [])) is = (x, same_read (made x) e is, refl)
one_found made there e (Ok (x, t ∷ left)) is = absurd cc
one_found made there e (Err fault) is = absurd cc

two_found : {X Y E F : Type 0} (second : Reading Y) (made : X → Y → E) (there : X → Y → F) (e : E) (r : Given X) →
    ended (go_on r (λ x. second >>= λ y. done (made x y))) ≡ Ok e
    → (x : X) × (y : Y) × (made x y ≡ e) × (ended (go_on r (λ x. second >>= λ y. done (there x y))) ≡ Ok (there x y))
two_found second made there e (Ok (x, left)) is = let f = one_found (made x) (there x) e (second left) is in
    (x, f.0, f.1, f.2)
two_found second made there e (Err fault) is = absurd cc

three_found : {X Y Z E F : Type 0} (second : Reading Y) (third : Reading Z) (made : X → Y → Z → E)
    (there : X → Y → Z → F) (e : E) (r : Given X)
    → ended (go_on r (λ x. second >>= λ y. third >>= λ z. done (made x y z))) ≡ Ok e
    → (x : X) × (y : Y) × (z : Z) × (made x y z ≡ e) ×
    (ended (go_on r (λ x. second >>= λ y. third >>= λ z. done (there x y z))) ≡ Ok (there x y z))
three_found second third made there e (Ok (x, left)) is = let f = two_found third (made x) (there x) e
    (second left) is in (x, f.0, f.1, f.2, f.3)
three_found second third made there e (Err fault) is = absurd cc

-- the event has this word, and the parts are read as the twin
abbrev IsTwin : FollowWord → List (List ℕ) → FollowEvent → Type 0
IsTwin w ts e = (word_in e ≡ w) × (whole (schedule_reading (event_word (twin e))) ts ≡ Ok (twin e))

found : (w : FollowWord) (ts : List (List ℕ)) (e : FollowEvent) → whole (event_reading w) ts ≡ Ok e → IsTwin w ts e
unfolding event_reading make_reading feed_reading stop_reading recover_reading weak_reading schedule_reading leave_reading transfer_reading schedule_stop schedule_order schedule_weak
found Follower ts e is =
    let g = two_found id_part (λ f p. event.Follower f p) (λ f p. schedule.Leave f p) e (id_part ts) is in
    subst (IsTwin Follower ts) g.2 (refl, g.3)
found Feed ts e is =
    let g = three_found id_part count_part (λ p f n. event.Feed p f n) (λ p f n. schedule.Transfer p f n) e
    (id_part ts) is in
    subst (IsTwin Feed ts) g.3 (refl, g.4)
found Fstop ts e is =
    let g = three_found (number_part 0 1000000) fill_part (λ f n b. event.Stop f n b)
    (λ f n b. schedule.Stop f n b) e (id_part ts) is in
    subst (IsTwin Fstop ts) g.3 (refl, g.4)
found Frecover ts e is =
    let g = one_found (λ f. event.Recover f) (λ f. schedule.Order f) e (id_part ts) is in
    subst (IsTwin Frecover ts) g.1 (refl, g.2)
found Fweak ts e is =
    let g = two_found query_reading (λ f q. event.Weak f q) (λ f q. schedule.Weak f q) e (id_part ts) is in
    subst (IsTwin Fweak ts) g.2 (refl, g.3)

again : (e : FollowEvent) (ts : List (List ℕ)) → whole (schedule_reading (event_word (twin e))) ts ≡ Ok (twin e) →
    whole (event_reading (word_in e)) ts ≡ Ok e
unfolding event_reading make_reading feed_reading stop_reading recover_reading weak_reading schedule_reading leave_reading transfer_reading schedule_stop schedule_order schedule_weak
again (event.Follower f p) ts is =
    let g = two_found id_part (λ f p. schedule.Leave f p) (λ f p. event.Follower f p) (schedule.Leave f p)
    (id_part ts) is in
    g.3 ∙ ap (λ e. read_as (back e)) g.2
again (event.Feed p f count) ts is =
    let g = three_found id_part count_part (λ p f n. schedule.Transfer p f n) (λ p f n. event.Feed p f n)
    (schedule.Transfer p f count) (id_part ts) is in
    g.4 ∙ ap (λ e. read_as (back e)) g.3
again (event.Stop f call fill) ts is =
    let g = three_found (number_part 0 1000000) fill_part (λ f n b. schedule.Stop f n b) (λ f n b. event.Stop f n b)
    (schedule.Stop f call fill) (id_part ts) is in
    g.4 ∙ ap (λ e. read_as (back e)) g.3
again (event.Recover f) ts is =
    let g = one_found (λ f. schedule.Order f) (λ f. event.Recover f) (schedule.Order f) (id_part ts) is in
    g.2 ∙ ap (λ e. read_as (back e)) g.1
again (event.Weak f query) ts is =
    let g = two_found query_reading (λ f q. schedule.Weak f q) (λ f q. event.Weak f q) (schedule.Weak f query)
    (id_part ts) is in
    g.3 ∙ ap (λ e. read_as (back e)) g.2

-- ---- how a line begins

word_of-text : (text : List ℕ) (word : FollowWord) → word_of text ≡ Some word → text ≡ text_of word
unfolding word_of
word_of-text text word = first (same_text text (codes "follower")) refl where
  some : (a b : FollowWord) → Some a ≡ Some b → a ≡ b
  some a b e = cc

  is : (a : FollowWord) → same_text text (text_of a) ≡ true → Some a ≡ Some word → text ≡ text_of word
  is a same e = (bytes_eq-Decides text (text_of a)).0 same ∙ ap text_of (some a word e)

  fifth : (b : Bool) → same_text text (codes "fweak") ≡ b → cond b (Some Fweak) None ≡ Some word → text ≡ text_of word
  fifth true same e = is Fweak same e
  fifth false same e = absurd cc

  fourth : (b : Bool) → same_text text (codes "frecover") ≡ b → cond b (Some Frecover)
      (cond (same_text text (codes "fweak")) (Some Fweak) None) ≡ Some word → text ≡ text_of word
  fourth true same e = is Frecover same e
  fourth false same e = fifth (same_text text (codes "fweak")) refl e

  third : (b : Bool) → same_text text (codes "fstop") ≡ b → cond b (Some Fstop)
      (cond (same_text text (codes "frecover")) (Some Frecover) (cond (same_text text (codes "fweak"))
      (Some Fweak) None)) ≡ Some word → text ≡ text_of word
  third true same e = is Fstop same e
  third false same e = fourth (same_text text (codes "frecover")) refl e

  second : (b : Bool) → same_text text (codes "feed") ≡ b
      → cond b (Some Feed) (cond (same_text text (codes "fstop")) (Some Fstop)
      (cond (same_text text (codes "frecover")) (Some Frecover) (cond (same_text text (codes "fweak"))
      (Some Fweak) None))) ≡ Some word → text ≡ text_of word
  second true same e = is Feed same e
  second false same e = third (same_text text (codes "fstop")) refl e

  first : (b : Bool) → same_text text (codes "follower") ≡ b
      → cond b (Some Follower) (cond (same_text text (codes "feed")) (Some Feed)
      (cond (same_text text (codes "fstop")) (Some Fstop) (cond (same_text text (codes "frecover"))
      (Some Frecover) (cond (same_text text (codes "fweak")) (Some Fweak) None)))) ≡ Some word
      → text ≡ text_of word
  first true same e = is Follower same e
  first false same e = second (same_text text (codes "feed")) refl e

word_of-again : (word : FollowWord) → word_of (text_of word) ≡ Some word
unfolding word_of
word_of-again Follower = refl
word_of-again Feed = refl
word_of-again Fstop = refl
word_of-again Frecover = refl
word_of-again Fweak = refl

record Opened (line : List ℕ) (e : FollowEvent) : Type 0 where
  word : FollowWord
  rest : List (List ℕ)
  stands : is_passed_over line ≡ false
  is_text : is_utf8 line ≡ true
  line_tokens : tokens line ≡ text_of word ∷ rest
  reads : whole (event_reading word) rest ≡ Ok e

opened : (line : List ℕ) (e : FollowEvent) → follow_reading line ≡ Ok (Some e) → Opened line e
unfolding follow_reading
opened line e = by_passed (is_passed_over line) refl where
  some_read-ok : (r : Result FollowEvent LineFault) → some_read r ≡ Ok (Some e) → r ≡ Ok e
  some_read-ok (Ok a) f = cc
  some_read-ok (Err fault) f = absurd cc

  by_text : (text : List ℕ) (rest : List (List ℕ)) (word : FollowWord) (b : Bool) → is_passed_over line ≡ false →
      tokens line ≡ text ∷ rest → word_of text ≡ Some word
      → is_utf8 line ≡ b → cond b (some_read (whole (event_reading word) rest)) (Err not_utf8) ≡ Ok (Some e) →
      Opened line e
  by_text text rest word true stands same is utf8 f = record {
    word = word;
    rest = rest;
    stands = stands;
    is_text = utf8;
    line_tokens = same ∙ ap (λ (t : List ℕ). t ∷ rest) (word_of-text text word is);
    reads = some_read-ok (whole (event_reading word) rest) f;
  }
  by_text text rest word false stands same is utf8 f = absurd cc

  by_word : (text : List ℕ) (rest : List (List ℕ)) (o : Option FollowWord) → is_passed_over line ≡ false →
      tokens line ≡ text ∷ rest → word_of text ≡ o
      → after_word (is_utf8 line) (option_map event_reading o) rest ≡ Ok (Some e) → Opened line e
  by_word text rest None stands same is f = absurd cc
  by_word text rest (Some word) stands same is f = by_text text rest word (is_utf8 line) stands same is refl f

  by_tokens : (ts : List (List ℕ)) → is_passed_over line ≡ false → tokens line ≡ ts →
      tokens_reading (λ word. option_map event_reading (word_of word)) (is_utf8 line) ts ≡ Ok (Some e) → Opened line e
  by_tokens [] stands same f = absurd cc
  by_tokens (text ∷ rest) stands same f = by_word text rest (word_of text) stands same refl f

  by_passed : (b : Bool) → is_passed_over line ≡ b →
      cond b (Ok None) (tokens_reading (λ word. option_map event_reading (word_of word)) (is_utf8 line)
      (tokens line)) ≡ Ok (Some e) → Opened line e
  by_passed true passed f = absurd cc
  by_passed false passed f = by_tokens (tokens line) passed refl f

reopened : (line : List ℕ) (e : FollowEvent) (word : FollowWord) (ts : List (List ℕ)) → is_passed_over line ≡ false →
    is_utf8 line ≡ true → tokens line ≡ text_of word ∷ ts →
    whole (event_reading word) ts ≡ Ok e → follow_reading line ≡ Ok (Some e)
unfolding follow_reading
reopened line e word ts stands is_text line_tokens reads = rw (
  stands,
  line_tokens,
  word_of-again word,
  is_text,
  reads,
) refl

-- ---- the whole line

module _ (known : Known) where
  -- a word and what stands behind a blank
  worded : (text rest : List ℕ) → is_word text ≡ true → tokens (text ++ 32 ∷ rest) ≡ text ∷ tokens rest
  worded text rest is = known.word text (32 ∷ rest) is refl ∙ ap (λ ts. text ∷ ts) (known.blank 32 rest refl)

  tokens_of : (e : FollowEvent) → tokens (line_of e) ≡ text_of (word_in e) ∷ tokens (behind_word e)
  tokens_of e = ap tokens (line_is e) ∙ worded (text_of (word_in e)) (behind_word e) (word_is (word_in e))

  twin_tokens : (e : FollowEvent) → tokens (schedule_line (twin e)) ≡ word_text (event_word (twin e)) ∷ tokens
      (behind_word e)
  twin_tokens e = ap tokens (twin_line_is e) ∙ worded (word_text (event_word (twin e))) (behind_word e) (twin_word_is e)

  reads : (line : List ℕ) (e : FollowEvent) → follow_reading line ≡ Ok (Some e) → ReadsAs line e
  reads line e f =
      let o = opened line e f in
      let g = found o.word o.rest e o.reads in
      let p = (known.parts (twin e) o.rest).0 g.1 in
      let rest : o.rest ≡ tokens (behind_word e) = same_rest (word_text (event_word (twin e))) o.rest
      (tokens (behind_word e)) (sym p.1 ∙ twin_tokens e) in
      record {
        stands = o.stands;
        is_text = o.is_text;
        within = within_into e p.0;
        same_tokens = o.line_tokens ∙ ap (λ w. text_of w ∷ o.rest) (sym g.0) ∙ ap
            (λ ts. text_of (word_in e) ∷ ts) rest ∙ sym (tokens_of e);
      }

  read_again : (line : List ℕ) (e : FollowEvent) → ReadsAs line e → follow_reading line ≡ Ok (Some e)
  read_again line e r =
      let read = (known.parts (twin e) (tokens (behind_word e))).1 (within_from e r.within, twin_tokens e) in
      reopened line e (word_in e) (tokens (behind_word e)) r.stands r.is_text (r.same_tokens ∙ tokens_of e)
      (again e (tokens (behind_word e)) read)

  pub lines_exact : ExactLines
  lines_exact line e = (reads line e, read_again line e)
