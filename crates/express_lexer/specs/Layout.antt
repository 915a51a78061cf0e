-- Layout: what may occur between tokens (ISO 10303-11, 7.1.5 and 7.1.6).
use Rattle.std.specs.Prelude.{◌≡◌, ℕ, ◌<◌, ◌≤◌, Bool, false, not, ◌==◌, ◌||◌, List, [], ◌∷◌, ◌++◌, length, take, drop, codes}
use Rattle.step_literals.specs.Bytes.{Each, Stops}
use Rattle.step_literals.specs.Strings.{begins_with}

-- the lists, one after another
abbrev pub joined : List (List ℕ) → List ℕ
joined [] = []
joined (u ∷ us) = u ++ joined us

-- the content of an embedded remark after its `(*`
pub data Content : Type 0 where
  -- its `*)`
  closing : Content
  -- a byte, and the rest
  byte : ℕ → Content → Content
  -- a remark with this content, and the rest
  remark : Content → Content → Content

-- the spelling of the content
abbrev pub written : Content → List ℕ
written closing = codes "*)"
written (byte b more) = b ∷ written more
written (remark inner more) = 40 ∷ 42 ∷ written inner ++ written more

-- the text begins with `(*` or `*)`
abbrev pub turns : List ℕ → Bool
turns bs = begins_with (codes "(*") bs || begins_with (codes "*)") bs

-- no byte begins `(*` or `*)`: these are only the beginnings and ends of remarks
abbrev pub IsContent : Content → Type 0
IsContent closing = Unit {0}
IsContent (byte b more) = (turns (b ∷ written more) ≡ false) × IsContent more
IsContent (remark inner more) = IsContent inner × IsContent more

-- `(*`, bytes and remarks, `*)`
abbrev pub IsRemark : List ℕ → Type 0
IsRemark t = (content : Content) × IsContent content × (t ≡ 40 ∷ 42 ∷ written content)

-- an embedded remark of n bytes is a prefix of the bytes
abbrev pub HasRemark : List ℕ → ℕ → Type 0
HasRemark l n = (2 ≤ n) × (n ≤ length l) × IsRemark (take n l)

-- no embedded remark is a prefix of the bytes
abbrev pub NoRemark : List ℕ → Type 0
NoRemark l = (t after : List ℕ) → l ≡ t ++ after → IsRemark t → ⊥

-- any byte except that of a new line
abbrev pub in_line : ℕ → Bool
in_line b = not (b == 10)

-- the kinds of layout
pub data Blank : Type 0 where
  space : Blank
  tail_remark : Blank
  embedded_remark : Blank

-- A blank before what follows it. A tail remark is `--` and the bytes up to the end of the line or
-- of the text.
abbrev pub AllowsBlank : Blank → List ℕ → List ℕ → Type 0
AllowsBlank space t after = (b : ℕ) × (b ≤ 32) × (t ≡ b ∷ [])
AllowsBlank tail_remark t after = (line : List ℕ) × Each in_line line × Stops in_line after × (t ≡ 45 ∷ 45 ∷ line)
AllowsBlank embedded_remark t after = IsRemark t

abbrev pub IsBlank : List ℕ → List ℕ → Type 0
IsBlank t after = (kind : Blank) × AllowsBlank kind t after

-- a blank of n bytes is a prefix of the bytes
abbrev pub HasBlank : List ℕ → ℕ → Type 0
HasBlank l n = (0 < n) × (n ≤ length l) × IsBlank (take n l) (drop n l)

-- no blank is a prefix of the bytes
abbrev pub NoBlank : List ℕ → Type 0
NoBlank l = (t after : List ℕ) → l ≡ t ++ after → IsBlank t after → ⊥

-- blanks, one after another, before what follows them
abbrev pub AreBlanks : List (List ℕ) → List ℕ → Type 0
AreBlanks [] after = Unit {0}
AreBlanks (t ∷ ts) after = IsBlank t (joined ts ++ after) × AreBlanks ts after

-- the whole layout at the beginning of a text is skipped
pub record SkipsLayout (before after : List ℕ) : Type 0 where
  pub blanks : List (List ℕ)
  pub layout : AreBlanks blanks after
  pub split : before ≡ joined blanks ++ after
  pub whole : NoBlank after
