-- The words of a structure that was read are spelt as tokens.
use Rattle.std.proofs.Common.{◌≡◌, ℕ, ◌<◌, ◌^◌, true, List, [], ◌∷◌, ◌++◌, map, refl, sym, ap, ◌∙◌, subst, arith, inl, inr}
use Rattle.std.specs.Char.{to_ascii_lowercase}
use Rattle.std.proofs.lemmas.Bool.Decides.{nat_tests}
use Rattle.std.proofs.lemmas.List.{append_cancel_right}
use Rattle.std.proofs.lemmas.Slice.Eq.{bytes_eq-Decides}
use Rattle.std.proofs.lemmas.Str.Ascii.{lowercase-uppercase}
use Rattle.parsing.specs.Tables.{lookaheads}
use Rattle.step_lexer.specs.declared.token.Sort.{Sort}
use Rattle.step_lexer.specs.declared.token.Sort.TheVariants as sorts
use Rattle.step_literals.specs.Bytes.{is_letter, is_word_byte, Each}
use Rattle.step_literals.specs.Tokens.{TokenKind, IsKeyword, Spells, Allows, IsNext}
use Rattle.step_literals.specs.Tokens as kinds
use Rattle.step_literals.specs.Literals.{IsDecimal, IsText}
use Rattle.step_lexer.specs.Front.{kind_of, HasValue}
use Rattle.step_lexer.specs.Reading.{Reading}
use Rattle.step_lexer.proofs.Standing.{stands}
use Rattle.step_structures.specs.Words.{Word, begins, ends, keyword, user_defined, scope, name, number, element, string, binary, mark, word_of, token, end_of_text, LocatedToken, Shows, shows_token, shows_fault, shows_end, ShowsAll}
use Rattle.step_structures.specs.Trees.{Item, this, says, named, finish, Meets, MeetAll, is_said}
use Rattle.step_literals.specs.Words.{upper}
use Rattle.step_structures.proofs.HeaderKept.{no_flaw}

-- a word is spelt as a token is
abbrev pub IsSpelt : Word → Type 0
IsSpelt begins = Unit {0}
IsSpelt ends = Unit {0}
IsSpelt (keyword t) = IsKeyword t
IsSpelt (user_defined t) = IsKeyword t
IsSpelt scope = Unit {0}
IsSpelt (name n t) = n < 2 ^ 64
IsSpelt (number t) = IsDecimal t
IsSpelt (element t) = IsKeyword t
IsSpelt (string t) = IsText t
IsSpelt (binary t) = Spells kinds.binary t
IsSpelt (mark m) = Unit {0}

-- the word that the normal text has where an item asks for one
abbrev pub item_word : Item → Word
item_word (this w) = w
item_word (says word) = keyword word
item_word (named n) = name n []
item_word finish = begins

abbrev pub AllSpelt : List Item → Type 0
AllSpelt [] = Unit {0}
AllSpelt (i ∷ is) = IsSpelt (item_word i) × AllSpelt is

between_dots : (v w t : List ℕ) → 46 ∷ v ++ 46 ∷ [] ≡ t → t ≡ 46 ∷ w ++ 46 ∷ [] → w ≡ v
between_dots v w t h g =
    let e : 46 ∷ (v ++ 46 ∷ []) ≡ 46 ∷ (w ++ 46 ∷ []) = h ∙ g in
    let q : w ++ 46 ∷ [] ≡ v ++ 46 ∷ [] = cc in
    append_cancel_right w v (46 ∷ []) q

behind_mark : (v w t : List ℕ) → 33 ∷ v ≡ t → t ≡ 33 ∷ w → w ≡ v
behind_mark v w t h g = let e : 33 ∷ v ≡ 33 ∷ w = h ∙ g in cc

-- what a token shows is spelt
sort_spelt : (sort : Sort) (t after : List ℕ) → HasValue sort t → Allows (kind_of sort) t after
    → IsSpelt (word_of sort t)
sort_spelt sorts.Begin t after h a = tt
sort_spelt sorts.End t after h a = tt
sort_spelt (sorts.Keyword w) t after h a = subst IsKeyword (sym h) a
sort_spelt (sorts.UserDefined w) t after h a = subst IsKeyword (behind_mark w.text.now a.0 t h a.2) a.1
sort_spelt sorts.Scope t after h a = tt
sort_spelt (sorts.Name n) t after h a = h.1
sort_spelt (sorts.Integer d) t after h a = subst IsDecimal (sym h.0) (record { number = inl a; short = h.1 })
sort_spelt (sorts.Real d) t after h a = subst IsDecimal (sym h.0) (record { number = inr a; short = h.1 })
sort_spelt (sorts.Element w) t after h a = subst IsKeyword (between_dots w.text.now a.0 t h a.2) a.1
sort_spelt (sorts.String s) t after h a = subst IsText (sym h.0) (record { string_is = a.0; readable = h.1 })
sort_spelt (sorts.Binary b) t after h a = subst (Spells kinds.binary) (sym h) a
sort_spelt (sorts.Mark m) t after h a = tt

lower_letter : (b : ℕ) → is_letter (to_ascii_lowercase b) ≡ is_letter b
lower_letter b = grind (arith, nat_tests)

lower_word : (b : ℕ) → is_word_byte (to_ascii_lowercase b) ≡ is_word_byte b
lower_word b = grind (arith, nat_tests)

each_cased : (v w : List ℕ) → map to_ascii_lowercase v ≡ map to_ascii_lowercase w → Each is_word_byte w
    → Each is_word_byte v
each_cased [] w e h = tt
each_cased (x ∷ xs) [] e h = absurd (cc)
each_cased (x ∷ xs) (y ∷ ys) e h =
    let a : to_ascii_lowercase x ≡ to_ascii_lowercase y = cc in
    let b : map to_ascii_lowercase xs ≡ map to_ascii_lowercase ys = cc in
    (sym (lower_word x) ∙ ap is_word_byte a ∙ lower_word y ∙ h.0, each_cased xs ys b h.1)

-- a word that differs from a keyword in case alone is one
pub keyword_cased : (v w : List ℕ) → map to_ascii_lowercase v ≡ map to_ascii_lowercase w → IsKeyword w → IsKeyword v
keyword_cased v [] e h = absurd h
keyword_cased [] (y ∷ ys) e h = absurd (cc)
keyword_cased (x ∷ xs) (y ∷ ys) e h =
    let a : to_ascii_lowercase x ≡ to_ascii_lowercase y = cc in
    let b : map to_ascii_lowercase xs ≡ map to_ascii_lowercase ys = cc in
    (sym (lower_letter x) ∙ ap is_letter a ∙ lower_letter y ∙ h.0, each_cased xs ys b h.1)

pub lower_upper : (w : List ℕ) → map to_ascii_lowercase (upper w) ≡ map to_ascii_lowercase w
lower_upper [] = refl
lower_upper (x ∷ xs) = λ i. lowercase-uppercase x i ∷ lower_upper xs i

pub upper_keyword : (w : List ℕ) → IsKeyword w → IsKeyword (upper w)
upper_keyword w h = keyword_cased (upper w) w (lower_upper w) h

pub said_cased : (word text : List ℕ) → is_said word text ≡ true → map to_ascii_lowercase word ≡ map to_ascii_lowercase
    text
said_cased word text h = (bytes_eq-Decides (map to_ascii_lowercase word) (map to_ascii_lowercase text)).0 h

says_spelt : (w : Word) (word : List ℕ) → IsSpelt w → Meets (token w) (says word) → IsKeyword word
says_spelt (keyword text) word s m = keyword_cased word text (said_cased word text m) s
says_spelt _ word s m = absurd m

named_spelt : (w : Word) (n : ℕ) → IsSpelt w → Meets (token w) (named n) → n < 2 ^ 64
named_spelt (name k text) n s m = omega (arith, s, m)
named_spelt _ n s m = absurd m

token_spelt : (w : Word) (i : Item) → IsSpelt w → Meets (token w) i → IsSpelt (item_word i)
token_spelt w (this v) s m = subst IsSpelt m s
token_spelt w (says word) s m = says_spelt w word s m
token_spelt w (named n) s m = named_spelt w n s m
token_spelt w finish s m = tt

end_spelt : (i : Item) → Meets end_of_text i → IsSpelt (item_word i)
end_spelt finish m = tt
end_spelt _ m = absurd m

item_spelt : (x : LocatedToken) (i : Item) (old next : Reading) → Shows old x next → Meets x.lookahead i
    → IsSpelt (item_word i)
item_spelt x i old next (shows_token t h e) m =
    let st = stands old next t h in
    token_spelt (word_of t.sort t.text.now) i (sort_spelt t.sort t.text.now _ st.value st.next.allowed)
    (subst (λ y. Meets y.lookahead i) e m)
item_spelt x i old next (shows_fault f h e) m = absurd (no_flaw f.flaw i (subst (λ y. Meets y.lookahead i) e m))
item_spelt x i old next (shows_end h e) m = end_spelt i (subst (λ y. Meets y.lookahead i) e m)

-- what is read is spelt
pub all_spelt : (items : List Item) (s : List LocatedToken) (old new : Reading) → ShowsAll old s new
    → MeetAll (lookaheads s) items
    → AllSpelt items
all_spelt [] s old new h b = tt
all_spelt (i ∷ is) [] old new h b = absurd b
all_spelt (i ∷ is) (x ∷ s) old new h b = (item_spelt x i old h.0 h.1 b.0, all_spelt is s h.0 new h.2 b.1)
