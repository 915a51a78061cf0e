-- A lexer has an answer.
use Rattle.std.proofs.Common.{◌≡◌, ℕ, ◌+◌, ◌≤◌, ◌<◌, List, length, take, drop, refl, sym, arith, length-drop, subst, Some, None, Ok, Err, Result, Option, ◌⊎◌, inl, inr}
use Rattle.std.proofs.lemmas.Bool.{cases_lt}
use Rattle.parsing.specs.Reading.{Lexis, Reading, Reaches, Answers, left}
use Rattle.parsing.specs.LexingLaws.{EachReadingHasAnAnswer}
use Rattle.parsing.proofs.Readings.{reaches}

-- layout can be skipped
abbrev pub LayoutAt : {T F : Type 0} → Lexis T F → List ℕ → Type 0
LayoutAt lexis l = (n : ℕ) × (n ≤ length l) × lexis.SkipsLayout l (drop n l)

-- a token stands at the front of a text, which begins at this place
pub record TokenAt {T F : Type 0} (lexis : Lexis T F) (l : List ℕ) (place : ℕ) : Type 0 where
  pub token : T
  pub front : lexis.IsFront l token
  pub text : lexis.bytes_of token ≡ take (length (lexis.bytes_of token)) l
  pub at : lexis.place_of token ≡ place

abbrev pub FrontAt : {T F : Type 0} → Lexis T F → List ℕ → ℕ → Type 0
FrontAt {T} {F} lexis l place = TokenAt lexis l place ⊎ ((f : F) × lexis.IsFlawed l place f)

-- at each place a token stands or a fault
pub record IsComplete {T F : Type 0} (lexis : Lexis T F) : Type 0 where
  pub layout_found : (l : List ℕ) → LayoutAt lexis l
  pub front_found : (l : List ℕ) (place : ℕ) → 0 < length l → FrontAt lexis l place

module _ {T F : Type 0} (lexis : Lexis T F) where
  HasAnswer : Reading → Type 0
  HasAnswer old = (r : Result (Option T) F) × (new : Reading) × Answers lexis old r new

  module _ (old : Reading) (within : old.place ≤ length old.text) (gap : LayoutAt lexis (left old)) where
    reached : Reaches lexis old (old.place + gap.0)
    reached = reaches lexis old old.text (left old) old.place gap.0 refl refl within refl gap.1 gap.2

    at_end : length old.text ≤ old.place + gap.0 → HasAnswer old
    unfolding HasAnswer
    at_end over =
        let same : old.place + gap.0 ≡ length old.text = omega (arith, over, reached.within) in (
          Ok None,
          record { text = old.text; place = length old.text },
          record {
            reaches = subst (Reaches lexis old) same reached;
            new_text = refl;
            new_place = refl;
          },
        )

    at_front : old.place + gap.0 < length old.text → FrontAt lexis (drop (old.place + gap.0) old.text)
        (old.place + gap.0) → HasAnswer old
    unfolding HasAnswer
    at_front more (inl f) =
        let p = sym f.at in (
          Ok (Some f.token),
          record { text = old.text; place = lexis.place_of f.token + length (lexis.bytes_of f.token) },
          record {
            reaches = subst (Reaches lexis old) p reached;
            front = subst (λ n. lexis.IsFront (drop n old.text) f.token) p f.front;
            text = subst (λ n. lexis.bytes_of f.token ≡ take (length (lexis.bytes_of f.token)) (drop n old.text)) p
                f.text;
            new_text = refl;
            new_place = refl;
          },
        )
    at_front more (inr f) = (
      Err f.0,
      old,
      record {
        place = old.place + gap.0;
        reaches = reached;
        more = more;
        flawed = f.1;
        same = refl;
      },
    )

    answer : IsComplete lexis → (old.place + gap.0 < length old.text) ⊎ (length old.text ≤ old.place + gap.0)
        → HasAnswer old
    answer whole (inl more) = at_front more (whole.front_found (drop (old.place + gap.0) old.text) (old.place + gap.0)
        (omega (arith, more, length-drop (old.place + gap.0) old.text)))
    answer whole (inr over) = at_end over

-- each reading has an answer
pub answered : {T F : Type 0} (lexis : Lexis T F) → IsComplete lexis → EachReadingHasAnAnswer lexis
unfolding HasAnswer
answered lexis whole old within = let gap = whole.layout_found (left old) in answer lexis old within gap whole
    (cases_lt (old.place + gap.0) (length old.text))
