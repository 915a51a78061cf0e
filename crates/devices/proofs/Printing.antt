-- One text after another, and then the end.
use Rattle.std.proofs.Common.{◌≡◌, ℕ, Bool, true, false, List, [], ◌∷◌, ◌++◌, Option, MatchBool, Result, Ok, Err, refl, sym, ap, ◌∙◌, subst, append-nil, arith}
use Rattle.std.specs.Prelude.{is_err}
use Rattle.std.specs.Io.KnownBytes.{Appends}
use Rattle.devices.specs.declared.device.WriteFault.{WriteFault}
use Rattle.devices.specs.steps.Prints.{Printing, fresh, Sends, Cut, Whole, Prints, Finishes, Answers}
use Rattle.devices.specs.Emits.{Emits, EmitsFront}
use Rattle.devices.proofs.Sending.{sends_join, sends_cut, sends_kept}

runs_join : {S : Type 0} (held : S → Option (List ℕ)) (failed : S → Bool) (a b c : S) (p q r : Printing) (t u : List ℕ)
    (s : Bool) → q.stopped ≡ s
    → MatchBool s (Cut (held a) (held b) p q t) (Whole (held a) (held b) p q t) → Prints held failed b c q r u
    → MatchBool r.stopped (Cut (held a) (held c) p r (t ++ u)) (Whole (held a) (held c) p r (t ++ u))
runs_join {S} held failed a b c p q r t u true e h k =
    let i = k.idle e in
    let P : Printing → Type 0 = λ x. Cut (held a) (held b) p x (t ++ u) in
    let Q : S → Type 0 = λ x. Cut (held a) (held x) p r (t ++ u) in
    let M : Bool → Type 0 = λ v. MatchBool v (Cut (held a) (held c) p r (t ++ u)) (Whole (held a) (held c) p r (t ++ u))
    in
    subst M (sym (ap (λ (x : Printing). x.stopped) i.0 ∙ e))
    (subst Q (sym i.1) (subst P (sym i.0) (h.0 ++ u, sends_cut u h.1)))
runs_join held failed a b c p q r t u false e h k = by r.stopped (k.runs e)
  where
    by : (v : Bool) → MatchBool v (Cut (held b) (held c) q r u) (Whole (held b) (held c) q r u)
        → MatchBool v (Cut (held a) (held c) p r (t ++ u)) (Whole (held a) (held c) p r (t ++ u))
    by true g = (g.0, sends_join h g.1)
    by false g = sends_join h g

-- a text is printed, and then another
pub prints_join : {S : Type 0} (held : S → Option (List ℕ)) (failed : S → Bool) (a b c : S) (p q r : Printing)
    (t u : List ℕ) → Prints held failed a b p q t → Prints held failed b c q r u → Prints held failed a c p r (t ++ u)
prints_join held failed a b c p q r t u h k = record {
  idle = (λ e. let i = h.idle e in let j = k.idle (ap (λ (x : Printing). x.stopped) i.0 ∙ e) in (j.0 ∙ i.0, j.1 ∙ i.1));
  runs = (λ e. runs_join held failed a b c p q r t u q.stopped refl (h.runs e) k);
  agrees = (λ e. k.agrees (h.agrees e));
}

pub then_print : {S : Type 0} {held : S → Option (List ℕ)} {failed : S → Bool} {a b c : S} {p q r : Printing}
    {t u : List ℕ} → Prints held failed a b p q t → Prints held failed b c q r u → Prints held failed a c p r (t ++ u)
then_print {S} {held} {failed} {a} {b} {c} {p} {q} {r} {t} {u} h k = prints_join held failed a b c p q r t u h k

-- as a search goes: from the last print back, and past a byte at the front
pub print_last : {S : Type 0} (held : S → Option (List ℕ)) (failed : S → Bool) (a b c : S) (p q r : Printing)
    (t u : List ℕ) → Prints held failed b c q r u → Prints held failed a b p q t → Prints held failed a c p r (t ++ u)
print_last held failed a b c p q r t u k h = prints_join held failed a b c p q r t u h k

pub print_first : {S : Type 0} (held : S → Option (List ℕ)) (failed : S → Bool) (a b c : S) (p q r : Printing) (x : ℕ)
    (u : List ℕ) → Prints held failed a b p q (x ∷ []) → Prints held failed b c q r u → Prints held failed a c p r
    (x ∷ u)
print_first held failed a b c p q r x u h k = prints_join held failed a b c p q r (x ∷ []) u h k

-- what a search needs for a function of many prints
pub ruleset printing = (print_last, print_first)

-- the text in other words
pub prints_as : {S : Type 0} {held : S → Option (List ℕ)} {failed : S → Bool} {a b : S} {p q : Printing} {t u : List ℕ}
    → t ≡ u → Prints held failed a b p q t → Prints held failed a b p q u
prints_as {S} {held} {failed} {a} {b} {p} {q} e h = subst (Prints held failed a b p q) e h

-- nothing is printed
pub prints_nothing : {S : Type 0} (held : S → Option (List ℕ)) (failed : S → Bool) (a : S) (p : Printing)
    → Prints held failed a a p p []
prints_nothing held failed a p = record {
  idle = (λ e. (refl, refl));
  runs = (λ e. rw e (let s = sends_kept (held a) p.waiting p.written [] in rw append-nil at s));
  agrees = (λ e. e);
}

sent_all : (a b : Option (List ℕ)) (n m : ℕ) (text : List ℕ) → Sends a b [] n m (text ++ []) [] → Appends a b text
sent_all a b n m text s = let e : s.sent ≡ text = sym (append-nil s.sent) ∙ sym s.whole ∙ append-nil text in
    subst (Appends a b) e s.told

sent_front : (a b : Option (List ℕ)) (m n : ℕ) (text left : List ℕ) → n ≡ m → Sends a b [] 0 m (text ++ []) left
    → EmitsFront a b text n
sent_front a b m n text left e s = record {
  sent = s.sent;
  left = left;
  front = sym (append-nil text) ∙ s.whole;
  told = s.told;
  count = omega (arith, e, s.count);
}

emits_last : (a c : Option (List ℕ)) (r : Printing) (text : List ℕ) (result : Result Unit WriteFault)
    → MatchBool r.stopped (Cut a c fresh r (text ++ [])) (Whole a c fresh r (text ++ [])) → Answers r result
    → Emits a c text result
emits_last a c r text (Ok x) h k = let s = rw k.0 at h in sent_all a c 0 r.written text (rw k.1 at s)
emits_last a c r text (Err f) h k = let s = rw k.0 at h in sent_front a c r.written f.written text s.0 k.1 s.1

-- A text was printed by a fresh printer, which then finished.
pub emits_all : {S : Type 0} {held : S → Option (List ℕ)} {failed : S → Bool} {a b c : S} {p q : Printing}
    {text : List ℕ} {result : Result Unit WriteFault} → p ≡ fresh → Prints held failed a b p q text
    → Finishes held failed b c q result → Emits (held a) (held c) text result
emits_all {S} {held} {failed} {a} {b} {c} {p} {q} {text} {result} e h k = emits_last (held a) (held c) k.last text
    result ((rw e at (then_print h k.prints)).runs refl) k.answers

fails_last : (r : Printing) (result : Result Unit WriteFault) (v : Bool) → v ≡ r.stopped → Answers r result
    → v ≡ is_err result
fails_last r (Ok x) v e k = e ∙ k.0
fails_last r (Err f) v e k = e ∙ k.0

-- The sink has failed exactly where the answer is a fault.
pub fails_with : {S : Type 0} {held : S → Option (List ℕ)} {failed : S → Bool} {a b c : S} {p q : Printing}
    {text : List ℕ} {result : Result Unit WriteFault} → p ≡ fresh → Prints held failed a b p q text
    → Finishes held failed b c q result → failed a ≡ false → failed c ≡ is_err result
fails_with {S} {held} {failed} {a} {b} {c} {p} {q} {text} {result} e h k fine = fails_last k.last result (failed c)
    (k.prints.agrees (h.agrees (fine ∙ sym (ap (λ (x : Printing). x.stopped) e)))) k.answers
