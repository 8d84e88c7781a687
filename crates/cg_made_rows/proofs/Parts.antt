-- Numbers of replicas and keys between quotes, as parts of a line.
use Rattle.std.proofs.Common.{◌≡◌, ℕ, ◌^◌, ◌<◌, ◌≤◌, true, List, [], ◌∷◌, ◌++◌, length, Result, Ok, Err, refl, ap, ◌∙◌, arith}
use Rattle.std.specs.Prelude.{decimal, nat_le}
use Rattle.std.specs.Fmt.{digits}
use Rattle.std.specs.Str.{IsUtf8}
use Rattle.std.proofs.lemmas.Bool.{leb-true, le-leb}
use Rattle.cg_base.specs.Replicas.{every_replica}
use Rattle.cg_base.specs.Sets.{IsId}
use Rattle.cg_base.specs.SetLaws.{each-replica}
use Rattle.cg_text.specs.declared.fault.TextFault.{TextFault}
use Rattle.cg_text.specs.Fault.{IsSpelling}
use Rattle.cg_text.specs.Numbers.{read_u64}
use Rattle.cg_text.specs.Printable.{is_printable}
use Rattle.cg_text.specs.Quoted.{quoted, read_quoted}
use Rattle.cg_text.specs.Tokens.{is_blank, is_word, ends_word, tokens}
use Rattle.cg_schedule.specs.declared.fault.LineFault.{LineFault}
use Rattle.cg_schedule.specs.Command.{key_part}
use Rattle.cg_schedule.specs.Fault.{bad_text}
use Rattle.cg_schedule.specs.Limits.{IsPrintable}
use Rattle.cg_schedule.specs.Part.{long_enough, number, text, id_part, text_part}
use Rattle.cg_schedule.specs.Reading.{Reading, go_on, ◌>>=◌, ended, whole}
use Rattle.cg_made_rows.specs.declared.relaxed_event.RelaxedEvent.{RelaxedEvent}
use Rattle.cg_base.specs.ListLaws.{same_cons}
use Rattle.cg_base.specs.ResultLaws.{cond_ok}
use Rattle.cg_schedule.specs.PartLaws.{lifted-ok}
use Rattle.cg_schedule.specs.NumberLaws.{in_range-ok}

-- the laws of numbers, of texts and of tokens
pub record Known : Type 0 where
  pub numbers : IsSpelling (λ n. n < 2 ^ 64) decimal read_u64
  pub texts : (max : ℕ) → IsSpelling (λ text. IsUtf8 text × (is_printable text ≡ true) × (length text ≤ max)) quoted
      (read_quoted max)
  pub none : tokens [] ≡ []
  pub blank : (byte : ℕ) (rest : List ℕ) → is_blank byte ≡ true → tokens (byte ∷ rest) ≡ tokens rest
  pub word : (word rest : List ℕ) → is_word word ≡ true → ends_word rest ≡ true →
      tokens (word ++ rest) ≡ word ∷ tokens rest
  pub text : (text rest : List ℕ) → tokens (quoted text ++ rest) ≡ quoted text ∷ tokens rest

-- ---- what was read of one token

long_enough-ok : (r : Result (List ℕ) TextFault) (t : List ℕ) → long_enough 1 r ≡ Ok t → (r ≡ Ok t) × (1 ≤ length t)
long_enough-ok (Ok u) t e =
    let g = cond_ok (nat_le 1 (length u)) u t bad_text e in
    (ap (λ (v : List ℕ). Ok v) g.1, rw (← g.1) (leb-true 1 (length u) g.0))
long_enough-ok (Err fault) t e = absurd cc

-- a part was read: it is spelled by the first token
record Found {X : Type 0} (Is : X → Type 0) (spelling : X → List ℕ) (ts : List (List ℕ)) (x : X) (left : List (List ℕ))
    : Type 0 where
  within : Is x
  first : ts ≡ spelling x ∷ left

module _ (known : Known) where
  id_found : (ts : List (List ℕ)) (n : ℕ) (left : List (List ℕ)) → id_part ts ≡ Ok (n, left) →
      Found IsId decimal ts n left
  unfolding id_part number
  id_found [] n left e = absurd cc
  id_found (t ∷ ts) n left e =
      let l = lifted-ok (number 1 32 t) ts n left e in
      let r = in_range-ok 1 32 (read_u64 t) n l.0 in
      record { within = r.1; first = same_cons t (decimal n) ts left (known.numbers.found t n r.0).1 l.1 }

  id_again : (n : ℕ) (left : List (List ℕ)) → IsId n → id_part (decimal n ∷ left) ≡ Ok (n, left)
  unfolding id_part number
  id_again n left has = rw (known.numbers.again n (omega arith), le-leb 1 n has.0, le-leb n 32 has.1) refl

  key_found : (ts : List (List ℕ)) (key : List ℕ) (left : List (List ℕ)) → key_part ts ≡ Ok (key, left) →
      Found (IsPrintable 1 64) quoted ts key left
  unfolding text_part text
  key_found [] key left e = absurd cc
  key_found (t ∷ ts) key left e =
      let l = lifted-ok (text 1 64 t) ts key left e in
      let r = long_enough-ok (read_quoted 64 t) key l.0 in
      let is = (known.texts 64).found t key r.0 in
      record { within = (is.0.0, is.0.1, r.1, is.0.2); first = same_cons t (quoted key) ts left is.1 l.1 }

  key_again : (key : List ℕ) (left : List (List ℕ)) → IsPrintable 1 64 key →
      key_part (quoted key ∷ left) ≡ Ok (key, left)
  unfolding text_part text
  key_again key left has =
      rw ((known.texts 64).again key (has.0, has.1, has.3), le-leb 1 (length key) has.2) refl

  -- ---- a part, and what is read behind it

  pub record Behind {X : Type 0} (Is : X → Type 0) (spelling : X → List ℕ) (next : X → Reading RelaxedEvent)
      (ts : List (List ℕ)) (e : RelaxedEvent) : Type 0 where
    pub part : X
    pub left : List (List ℕ)
    pub within : Is part
    pub first : ts ≡ spelling part ∷ left
    pub rest : whole (next part) left ≡ Ok e

  behind : {X : Type 0} (part : Reading X) (Is : X → Type 0) (spelling : X → List ℕ) (next : X → Reading RelaxedEvent)
      (ts : List (List ℕ)) (e : RelaxedEvent) →
      ((x : X) (left : List (List ℕ)) → part ts ≡ Ok (x, left) → Found Is spelling ts x left) →
      whole (part >>= next) ts ≡ Ok e → Behind Is spelling next ts e
  behind {X} part Is spelling next ts e found h = by_part (part ts) refl h where
    by_part : (r : Result (X × List (List ℕ)) LineFault) → part ts ≡ r → ended (go_on r next) ≡ Ok e →
        Behind Is spelling next ts e
    by_part (Ok (x, left)) a f =
        let is = found x left a in
        record { part = x; left = left; within = is.within; first = is.first; rest = f }
    by_part (Err fault) a f = absurd cc

  pub behind_id : (next : ℕ → Reading RelaxedEvent) (ts : List (List ℕ)) (e : RelaxedEvent) →
      whole (id_part >>= next) ts ≡ Ok e → Behind IsId decimal next ts e
  behind_id next ts e h = behind id_part IsId decimal next ts e (id_found ts) h

  pub behind_key : (next : List ℕ → Reading RelaxedEvent) (ts : List (List ℕ)) (e : RelaxedEvent) →
      whole (key_part >>= next) ts ≡ Ok e → Behind (IsPrintable 1 64) quoted next ts e
  behind_key next ts e h = behind key_part (IsPrintable 1 64) quoted next ts e (key_found ts) h

  pub from_id : (next : ℕ → Reading RelaxedEvent) (n : ℕ) (left : List (List ℕ)) → IsId n →
      whole (id_part >>= next) (decimal n ∷ left) ≡ whole (next n) left
  from_id next n left has =
      ap (λ (r : Result (ℕ × List (List ℕ)) LineFault). ended (go_on r next)) (id_again n left has)

  pub from_key : (next : List ℕ → Reading RelaxedEvent) (key : List ℕ) (left : List (List ℕ)) → IsPrintable 1 64 key →
      whole (key_part >>= next) (quoted key ∷ left) ≡ whole (next key) left
  from_key next key left has =
      ap (λ (r : Result (List ℕ × List (List ℕ)) LineFault). ended (go_on r next)) (key_again key left has)

  -- ---- tokens

  pub id_token : (n : ℕ) (rest : List ℕ) → IsId n → tokens (decimal n ++ 32 ∷ rest) ≡ decimal n ∷ tokens rest
  unfolding every_replica digits
  id_token n rest has =
      known.word (decimal n) (32 ∷ rest) (each-replica (λ m. is_word (decimal m)) n refl has) refl
      ∙ ap (λ ts. decimal n ∷ ts) (known.blank 32 rest refl)

  pub word_token : (text rest : List ℕ) → is_word text ≡ true → tokens (text ++ 32 ∷ rest) ≡ text ∷ tokens rest
  word_token text rest is = known.word text (32 ∷ rest) is refl ∙ ap (λ ts. text ∷ ts) (known.blank 32 rest refl)

  pub key_token : (key : List ℕ) → tokens (quoted key ++ []) ≡ quoted key ∷ []
  key_token key = known.text key [] ∙ ap (λ ts. quoted key ∷ ts) known.none
