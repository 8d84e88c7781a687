-- A line of a command's own begins with a word that a schedule doesn't have, so it leaves the state of a schedule's reader.
use Rattle.std.proofs.Common.{◌≡◌, ℕ, Bool, true, false, List, [], ◌∷◌, Option, Some, None, Ok, Err, option_map, codes, if◌then◌else◌, refl, ap, ◌∙◌}
use Rattle.std.specs.Str.{is_utf8}
use Rattle.std.proofs.lemmas.Slice.Eq.{bytes_eq-Decides}
use Rattle.cg_text.specs.Order.{same_text}
use Rattle.cg_text.specs.Tokens.{tokens, is_passed_over}
use Rattle.cg_schedule.specs.declared.reader_state.ReaderState.{ReaderState}
use Rattle.cg_schedule.specs.Fault.{not_utf8}
use Rattle.cg_schedule.specs.Line.{word_of, placed, opening_of, opening, reading, reading_behind, state_behind}
use Rattle.cg_schedule.specs.Own.{after_word, tokens_reading, own_reading}
use Rattle.cg_schedule.specs.Reading.{Reading}
use Rattle.cg_session.specs.Line.{word_of as session_word, event_reading as session_event, session_reading}
use Rattle.cg_follow.specs.Line.{word_of as follow_word, event_reading as follow_event, follow_reading}
use Rattle.cg_made_rows.specs.Line.{word_of as relaxed_word, event_reading as relaxed_event, relaxed_reading}
use Rattle.cg_items.specs.declared.companion.Companion.{Companion}
use Rattle.cg_items.specs.declared.companion.Companion.TheVariants.{Followers, Relaxed as MadeRows, Sessions as OpenSessions}
use Rattle.cg_items.specs.declared.companion.Further.{Further}
use Rattle.cg_items.specs.Companion.{further_reading}
use Rattle.cg_outcome.specs.FurtherLaws.{read-as}

-- ---- words

-- where this is there, the text is no word of a schedule
abbrev IsOwnWord : {A : Type 0} → List ℕ → Option A → Type 0
IsOwnWord {A} text o = (x : A) → o ≡ Some x → word_of text ≡ None

none-is : {A : Type 0} (text : List ℕ) → IsOwnWord {A = A} text None
none-is text x e = absurd cc

if-is : {A : Type 0} (text own : List ℕ) (mine rest : Option A) → word_of own ≡ None → IsOwnWord text rest → IsOwnWord text (if same_text text own then mine else rest)
if-is {A} text own mine rest unknown others = by_word (same_text text own) refl where
  by_word : (b : Bool) → same_text text own ≡ b → IsOwnWord text (if b then mine else rest)
  by_word true same = λ x e. ap word_of ((bytes_eq-Decides text own).0 same) ∙ unknown
  by_word false same = others

of-some : {A B : Type 0} (text : List ℕ) (f : A → B) (o : Option A) → IsOwnWord text o → IsOwnWord text (option_map f o)
of-some text f None own x e = absurd cc
of-some text f (Some a) own x e = own a refl

session-own : (text : List ℕ) → IsOwnWord text (session_word text)
unfolding session_word word_of
session-own text =
    if-is text (codes "session") _ _ refl (if-is text (codes "swrite") _ _ refl
    (if-is text (codes "sweak") _ None refl (none-is text)))

follow-own : (text : List ℕ) → IsOwnWord text (follow_word text)
unfolding follow_word word_of
follow-own text =
    if-is text (codes "follower") _ _ refl (if-is text (codes "feed") _ _ refl
    (if-is text (codes "fstop") _ _ refl (if-is text (codes "frecover") _ _ refl
    (if-is text (codes "fweak") _ None refl (none-is text)))))

relaxed-own : (text : List ℕ) → IsOwnWord text (relaxed_word text)
unfolding relaxed_word word_of
relaxed-own text = if-is text (codes "relaxed") _ _ refl (if-is text (codes "joined") _ None refl (none-is text))

-- ---- lines

-- a line that reads as one of a command's own leaves the state
module _ {X : Type 0} (reading_of : List ℕ → Option (Reading X)) (own : (word : List ℕ) → IsOwnWord word (reading_of word)) (state : ReaderState) where
  tokens-passed : (is_text : Bool) (ts : List (List ℕ)) (x : X) → tokens_reading reading_of is_text ts ≡ Ok (Some x)
      → state_behind state (reading_behind (if is_text then opening_of state ts else Err not_utf8)) ≡ state
  tokens-passed is_text [] x is = absurd cc
  tokens-passed false (word ∷ rest) x is = refl
  tokens-passed true (word ∷ rest) x is = by_reading (reading_of word) refl is where
    by_reading : (o : Option (Reading X)) → reading_of word ≡ o → after_word true o rest ≡ Ok (Some x) → state_behind state (reading_behind (opening_of state (word ∷ rest))) ≡ state
    by_reading None e same = absurd cc
    by_reading (Some read) e same = ap (λ w. state_behind state (reading_behind (placed state rest w))) (own word read e)

  line-passed : (line : List ℕ) (x : X) → own_reading reading_of line ≡ Ok (Some x) → state_behind state (reading state line) ≡ state
  unfolding opening
  line-passed line x is = by_place (is_passed_over line) refl is where
    by_place : (b : Bool) → is_passed_over line ≡ b → (if b then Ok None else tokens_reading reading_of (is_utf8 line) (tokens line)) ≡ Ok (Some x)
        → state_behind state (reading_behind (if b then Ok None else if is_utf8 line then opening_of state (tokens line) else Err not_utf8)) ≡ state
    by_place true e same = absurd cc
    by_place false e same = tokens-passed (is_utf8 line) (tokens line) x same

pub own-passed : (state : ReaderState) (c : Companion) (line : List ℕ) (e : Further) → further_reading c line ≡ Ok (Some e) → state_behind state (reading state line) ≡ state
unfolding session_reading follow_reading relaxed_reading
own-passed state (OpenSessions opened) line e is =
    let read = read-as _ (session_reading line) e is in
    line-passed (λ word. option_map session_event (session_word word)) (λ word. of-some word session_event (session_word word) (session-own word)) state line read.0 read.1
own-passed state (Followers followers) line e is =
    let read = read-as _ (follow_reading line) e is in
    line-passed (λ word. option_map follow_event (follow_word word)) (λ word. of-some word follow_event (follow_word word) (follow-own word)) state line read.0 read.1
own-passed state (MadeRows rows) line e is =
    let read = read-as _ (relaxed_reading line) e is in
    line-passed (λ word. option_map relaxed_event (relaxed_word word)) (λ word. of-some word relaxed_event (relaxed_word word) (relaxed-own word)) state line read.0 read.1
own-passed state other line e is = absurd cc
