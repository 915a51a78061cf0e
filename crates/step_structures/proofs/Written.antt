-- A text that is written word by word is read as these words.
use Rattle.std.proofs.Common.{◌≡◌, ℕ, ◌+◌, ◌≤◌, true, false, List, [], ◌∷◌, ◌++◌, length, map, drop, refl, sym, ap, ◌∙◌, subst, arith, inl, inr, ◌⊎◌, append-nil}
use Rattle.std.specs.Prelude.{decimal, ◌==◌}
use Rattle.std.specs.Char.{to_ascii_lowercase}
use Rattle.std.specs.Str.Parse.{AllDigits}
use Rattle.std.proofs.lemmas.Bool.Decides.{nat_tests}
use Rattle.std.proofs.lemmas.Fmt.{decimal_is_IsNumeral}
use Rattle.std.proofs.lemmas.Str.Parse.{digit_from_value}
use Rattle.std.proofs.lemmas.Slice.Eq.{bytes_eq-Decides}
use Rattle.std.proofs.Math.ListN.{drop_of_length-le}
use Rattle.step_lexer.specs.declared.token.Mark.{Mark}
use Rattle.step_lexer.specs.declared.token.Mark.TheVariants.{Open, Close, Comma, Semicolon, Equals, Dollar, Asterisk}
use Rattle.step_lexer.specs.declared.token.Sort.{Sort}
use Rattle.step_lexer.specs.declared.token.Sort.TheVariants as sorts
use Rattle.step_literals.specs.Bytes.{is_digit, Each}
use Rattle.step_literals.specs.Tokens.{TokenKind, is_mark, IsKeyword, Spells, Allows, IsNext}
use Rattle.step_literals.specs.Tokens as kinds
use Rattle.step_literals.specs.Literals.{IsDecimal}
use Rattle.step_lexer.specs.Layout.{IsLayout, NoBlank}
use Rattle.step_lexer.specs.Layout as blanks
use Rattle.step_lexer.specs.Front.{kind_of, mark_byte, HasValue}
use Rattle.step_lexer.specs.Reading.{Reading, IsAtEnd}
use Rattle.step_lexer.proofs.Closers.{is_closer, next_before_closer, no_blank_at_end}
use Rattle.step_lexer.proofs.FrontLemmas.{next_mark}
use Rattle.step_lexer.proofs.Standing.{Stands, token_at, takes}
use Rattle.step_structures.specs.Words.{Word, begins, ends, keyword, user_defined, scope, name, number, element, string, binary, mark, word_of, token, located, located_end, shows_token, shows_end}
use Rattle.step_structures.specs.Trees.{Item, this, says, named, finish, Meets, is_said}
use Rattle.step_structures.specs.Texts.{Reads}
use Rattle.step_literals.specs.Words.{upper}
use Rattle.step_structures.specs.Normal.{plain_word, plain_name, normal_word}
use Rattle.step_structures.proofs.HeaderKept.{at}
use Rattle.step_structures.proofs.Spelling.{IsSpelt, AllSpelt, upper_keyword, lower_upper}

-- the bytes begin with a closer
abbrev pub StartsClosed : List ℕ → Type 0
StartsClosed l = (c : ℕ) × (s : List ℕ) × (is_closer c ≡ true) × (l ≡ c ∷ s)

-- what may stand behind a word
abbrev pub FollowsWord : Word → List ℕ → Type 0
FollowsWord (mark m) more = Unit {0}
FollowsWord _ more = StartsClosed more

pub follows_word : (w : Word) (more : List ℕ) → StartsClosed more → FollowsWord w more
follows_word (mark m) more h = tt
follows_word _ more h = h

-- a token that the normal text says for a word
pub record Token (w : Word) : Type 0 where
  pub sort : Sort
  pub is : word_of sort (plain_word w) ≡ normal_word w
  pub value : HasValue sort (plain_word w)
  pub next : (more : List ℕ) → FollowsWord w more → IsNext (kind_of sort) (plain_word w) more

before : (k : TokenKind) (t more : List ℕ) → StartsClosed more → ((c : ℕ) (s : List ℕ) → is_closer c ≡ true
    → Allows k t (c ∷ s)) → IsNext k t more
before k t more f own = subst (IsNext k t) (sym f.3) (next_before_closer k t f.1 f.0 f.2 (own f.0 f.1 f.2))

mark_is : (m : Mark) → is_mark (mark_byte m) ≡ true
mark_is Open = refl
mark_is Close = refl
mark_is Comma = refl
mark_is Semicolon = refl
mark_is Equals = refl
mark_is Dollar = refl
mark_is Asterisk = refl

digits_each : (ds : List ℕ) → AllDigits 10 ds → Each is_digit ds
digits_each [] h = tt
digits_each (c ∷ cs) h = let r = digit_from_value c h.0 in (grind (arith, nat_tests, r), digits_each cs h.1)

closer_quote : (c : ℕ) → is_closer c ≡ true → (c == 39) ≡ false
closer_quote c h = grind (arith, nat_tests)

number_token : (t : List ℕ) → IsDecimal t → Spells kinds.integer t ⊎ Spells kinds.real t → Token (number t)
number_token t d (inl h) = record {
  sort = sorts.Integer (record { text = record { ref_ptr = (0, 0); now = t }; spelled = ∣ d ∣₁ });
  is = refl;
  value = (refl, d.short);
  next = λ more f. before _ _ more f (λ c s closer. h);
}
number_token t d (inr h) = record {
  sort = sorts.Real (record { text = record { ref_ptr = (0, 0); now = t }; spelled = ∣ d ∣₁ });
  is = refl;
  value = (refl, d.short);
  next = λ more f. before _ _ more f (λ c s closer. h);
}

-- a word that is spelt as a token is said by one
pub token_of : (w : Word) → IsSpelt w → Token w
token_of begins h = record {
  sort = sorts.Begin;
  is = refl;
  value = tt;
  next = λ more f. before _ _ more f (λ c s closer. refl);
}
token_of ends h = record {
  sort = sorts.End;
  is = refl;
  value = tt;
  next = λ more f. before _ _ more f (λ c s closer. refl);
}
token_of (keyword t) h = record {
  sort = sorts.Keyword (record {
    text = record { ref_ptr = (0, 0); now = upper t };
    spelled = ∣ upper_keyword t h ∣₁;
  });
  is = refl;
  value = refl;
  next = λ more f. before _ _ more f (λ c s closer. upper_keyword t h);
}
token_of (user_defined t) h = record {
  sort = sorts.UserDefined (record {
    text = record { ref_ptr = (0, 0); now = upper t };
    spelled = ∣ upper_keyword t h ∣₁;
  });
  is = refl;
  value = refl;
  next = λ more f. before _ _ more f (λ c s closer. (upper t, upper_keyword t h, refl));
}
token_of scope h = record {
  sort = sorts.Scope;
  is = refl;
  value = tt;
  next = λ more f. before _ _ more f (λ c s closer. refl);
}
token_of (name n t) h =
    let d = decimal_is_IsNumeral n h in
    record {
      sort = sorts.Name n;
      is = refl;
      value = (sym d.1, h);
      next = λ more f. before _ _ more f (λ c s closer. (decimal n, (d.0.0, digits_each (decimal n) d.0.1), refl));
    }
token_of (number t) h = number_token t h h.number
token_of (element t) h = record {
  sort = sorts.Element (record {
    text = record { ref_ptr = (0, 0); now = upper t };
    spelled = ∣ upper_keyword t h ∣₁;
  });
  is = refl;
  value = refl;
  next = λ more f. before _ _ more f (λ c s closer. (upper t, upper_keyword t h, refl));
}
token_of (string t) h = record {
  sort = sorts.String (record { text = record { ref_ptr = (0, 0); now = t }; spelled = ∣ h ∣₁ });
  is = refl;
  value = (refl, h.readable);
  next = λ more f. before _ _ more f (λ c s closer. (h.string_is, closer_quote c closer));
}
token_of (binary t) h = record {
  sort = sorts.Binary (record { text = record { ref_ptr = (0, 0); now = t }; spelled = ∣ h ∣₁ });
  is = refl;
  value = refl;
  next = λ more f. before _ _ more f (λ c s closer. h);
}
token_of (mark m) h = record {
  sort = sorts.Mark m;
  is = refl;
  value = refl;
  next = λ more f. next_mark (mark_byte m) more (mark_is m);
}

-- nothing, or a line end
abbrev pub IsGap : List ℕ → Type 0
IsGap gap = (gap ≡ []) ⊎ (gap ≡ 10 ∷ [])

abbrev pub WrittenItem : Item → List ℕ → List ℕ → List ℕ → Type 0
WrittenItem (this w) gap more t = FollowsWord w more × (t ≡ gap ++ (plain_word w ++ more))
WrittenItem (says word) gap more t = StartsClosed more × (t ≡ gap ++ (upper word ++ more))
WrittenItem (named n) gap more t = StartsClosed more × (t ≡ gap ++ (plain_name n ++ more))
WrittenItem finish gap more t = (more ≡ []) × (t ≡ gap)

-- the bytes are what the items ask for, each behind nothing or a line end
abbrev pub Written : List Item → List ℕ → Type 0
Written [] t = t ≡ []
Written (i ∷ is) t = (gap : List ℕ) × (more : List ℕ) × IsGap gap × Written is more × WrittenItem i gap more t

abbrev pub normal_item : Item → Item
normal_item (this w) = this (normal_word w)
normal_item (says word) = says word
normal_item (named n) = named n
normal_item finish = finish

gap_layout : (gap : List ℕ) → IsGap gap → IsLayout gap
gap_layout gap (inl h) = ([], tt, h)
gap_layout gap (inr h) = ((10 ∷ []) ∷ [], ((blanks.space, (10, omega arith, refl)), tt), h)

-- what is written is read
abbrev pub Read : List Item → List ℕ → ℕ → Type 0
Read items text place = (new : Reading) × Reads (at text place) (map normal_item items) new

word_read : (i : Item) (is : List Item) (text left more gap : List ℕ) (place : ℕ) (w : Word) (tk : Token w)
    → place ≤ length text → drop place text ≡ left → left ≡ gap ++ (plain_word w ++ more) → IsGap gap
    → FollowsWord w more
    → Meets (token (normal_word w)) (normal_item i) → ((after : ℕ) → after ≤ length text → drop after text ≡ more
    → Read is text after) → Read (i ∷ is) text place
word_read i is text left more gap place w tk within here e g f m rest =
    let own : Stands left tk.sort (plain_word w) more = record {
      gap = gap;
      layout = gap_layout gap g;
      split = e;
      next = tk.next more f;
      value = tk.value;
    } in
    let after = place + (length gap + length (plain_word w)) in
    let a = takes text left (plain_word w) more place tk.sort within here own after refl in
    let r = rest after a.1 a.2 in
    let x = located (token_at (place + length gap) tk.sort (plain_word w)) in (
      r.0,
      (
        x ∷ r.1.0,
        (
          at text after,
          shows_token (token_at (place + length gap) tk.sort (plain_word w)) a.0 refl,
          r.1.1,
        ),
        (subst (λ v. Meets (token v) (normal_item i)) (sym tk.is) m, r.1.2),
      ),
    )

end_read : (is : List Item) (text left more gap : List ℕ) (place : ℕ) → place ≤ length text → drop place text ≡ left
    → left ≡ gap → IsGap gap → more ≡ []
    → ((after : ℕ) → after ≤ length text → drop after text ≡ more → Read is text after) → Read (finish ∷ is) text place
end_read is text left more gap place within here e g none rest =
    let behind : drop (length text) text ≡ [] = drop_of_length-le text (omega arith) in
    let r = rest (length text) (omega arith) (behind ∙ sym none) in
    let ended : IsAtEnd (at text place) (at text (length text)) = record {
      reaches = record {
        within = omega arith;
        layout = record {
          gap = gap;
          layout = gap_layout gap g;
          split = here ∙ e ∙ sym (append-nil gap)
              ∙ ap (λ l. gap ++ l) (sym behind);
          whole = subst NoBlank (sym behind) no_blank_at_end;
        };
      };
      new_text = refl;
      new_place = refl;
    } in
    (r.0, (located_end (at text place) ∷ r.1.0, (at text (length text), shows_end ended refl, r.1.1), (tt, r.1.2)))

said_upper : (word : List ℕ) → is_said word (upper word) ≡ true
said_upper word = (bytes_eq-Decides (map to_ascii_lowercase word) (map to_ascii_lowercase (upper word))).1
    (sym (lower_upper word))

this_meets : (w : Word) → Meets (token (normal_word w)) (this (normal_word w))
this_meets w = refl

-- a text that is written as the items ask is read as they ask
pub written_reads : (items : List Item) (text left : List ℕ) (place : ℕ) → place ≤ length text → drop place text ≡ left
    → AllSpelt items → Written items left → Read items text place
written_reads [] text left place within here s w = (at text place, ([], refl, tt))
written_reads (this v ∷ is) text left place within here s w =
    word_read (this v) is text left w.1 w.0 place v (token_of v s.0) within here w.4.1 w.2 w.4.0 (this_meets v)
    (λ after k e. written_reads is text w.1 after k e s.1 w.3)
written_reads (says word ∷ is) text left place within here s w =
    word_read (says word) is text left w.1 w.0 place (keyword word) (token_of (keyword word) s.0) within here w.4.1 w.2
    w.4.0 (said_upper word) (λ after k e. written_reads is text w.1 after k e s.1 w.3)
written_reads (named n ∷ is) text left place within here s w =
    word_read (named n) is text left w.1 w.0 place (name n []) (token_of (name n []) s.0) within here w.4.1 w.2 w.4.0
    refl (λ after k e. written_reads is text w.1 after k e s.1 w.3)
written_reads (finish ∷ is) text left place within here s w =
    end_read is text left w.1 w.0 place within here w.4.1 w.2 w.4.0 (λ after k e. written_reads is text w.1 after k e
    s.1 w.3)
