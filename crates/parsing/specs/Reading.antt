-- How far a text is read, and what its next token is, whatever the tokens are.
use Rattle.std.specs.Prelude.{◌≡◌, ℕ, ◌+◌, ◌<◌, ◌≤◌, nat_eq, List, [], ◌∷◌, length, take, drop, Option, None, Some, Result, Ok, Err, if◌then◌else◌}
use Rattle.std.specs.List.{starts_with}

-- a text, and the number of its bytes that are read
pub record Reading : Type 0 where
  pub text : List ℕ
  pub place : ℕ

-- a byte order mark at the start is skipped
abbrev pub start_of : List ℕ → ℕ
start_of text = if starts_with nat_eq text (239 ∷ 187 ∷ 191 ∷ []) then 3 else 0

-- nothing of a text is read yet
abbrev pub start : List ℕ → Reading
start text = record { text = text; place = start_of text }

abbrev pub left : Reading → List ℕ
left r = drop r.place r.text

-- the definition of the tokens T and the faults F of one kind of text
pub record Lexis (T F : Type 0) : Type 1 where
  -- the byte offset of a token, and its bytes
  pub place_of : T → ℕ
  pub bytes_of : T → List ℕ
  -- layout at the start of the first list is skipped, up to the second list, which is what follows
  pub SkipsLayout : List ℕ → List ℕ → Type 0
  -- the text begins with this token
  pub IsFront : List ℕ → T → Type 0
  -- a text that begins at this byte offset begins with no token, but has this fault
  pub IsFlawed : List ℕ → ℕ → F → Type 0
  -- the tokens have the same kind and the same value
  pub SameValue : T → T → Type 0

-- Only layout is between what is read and this byte offset. A token begins there, or the text ends there: no
-- more layout follows.
pub record Reaches {T F : Type 0} (lexis : Lexis T F) (old : Reading) (place : ℕ) : Type 0 where
  pub within : place ≤ length old.text
  pub layout : lexis.SkipsLayout (left old) (drop place old.text)

-- after layout the text has this token, and is read up to its end
pub record Takes {T F : Type 0} (lexis : Lexis T F) (old : Reading) (token : T) (new : Reading) : Type 0 where
  pub reaches : Reaches lexis old (lexis.place_of token)
  pub front : lexis.IsFront (drop (lexis.place_of token) old.text) token
  pub text : lexis.bytes_of token ≡ take (length (lexis.bytes_of token)) (drop (lexis.place_of token) old.text)
  pub new_text : new.text ≡ old.text
  pub new_place : new.place ≡ lexis.place_of token + length (lexis.bytes_of token)

-- only layout is left of the text
pub record IsAtEnd {T F : Type 0} (lexis : Lexis T F) (old new : Reading) : Type 0 where
  pub reaches : Reaches lexis old (length old.text)
  pub new_text : new.text ≡ old.text
  pub new_place : new.place ≡ length old.text

-- after layout there is no token within the limits, and nothing is read
pub record IsFaulty {T F : Type 0} (lexis : Lexis T F) (old : Reading) (fault : F) (new : Reading) : Type 0 where
  pub place : ℕ
  pub reaches : Reaches lexis old place
  pub more : place < length old.text
  pub flawed : lexis.IsFlawed (drop place old.text) place fault
  pub same : new ≡ old

-- what the next call of a lexer returns, and how far the text is read then
abbrev pub Answers : {T F : Type 0} → Lexis T F → Reading → Result (Option T) F → Reading → Type 0
Answers lexis old (Ok (Some token)) new = Takes lexis old token new
Answers lexis old (Ok None) new = IsAtEnd lexis old new
Answers lexis old (Err fault) new = IsFaulty lexis old fault new

-- two results are the same
abbrev pub SameAnswer : {T F : Type 0} → Lexis T F → Result (Option T) F → Result (Option T) F → Type 0
SameAnswer lexis (Ok (Some t)) (Ok (Some u)) = (lexis.place_of t ≡ lexis.place_of u)
    × (lexis.bytes_of t ≡ lexis.bytes_of u) × lexis.SameValue t u
SameAnswer lexis (Ok None) (Ok None) = Unit {0}
SameAnswer lexis (Err f) (Err g) = f ≡ g
SameAnswer _ _ _ = ⊥
