-- How the logic distinguishes trees: each has a code, and trees with equal codes are equal.
use Rattle.std.specs.Prelude.{◌≡◌, ℕ, List, refl}
use Rattle.std.specs.Coded.{Coded, coded_ℕ, coded_list}
use Rattle.std.proofs.Common.{ap}
use base.Stored.{Gv, gnil, gnum, gcons}
use Rattle.step_lexer.specs.declared.token.Mark.{Mark}
use Rattle.step_lexer.specs.declared.token.Mark.TheVariants.{Open, Close, Comma, Semicolon, Equals, Dollar, Asterisk}
use Rattle.step_structures.specs.Words.{Word, begins, ends, keyword, user_defined, scope, name, number, element, string, binary, mark}
use Rattle.step_structures.specs.Trees.{Tree, leaf, typed, group, Trees, none, one}

abbrev pub bytes : Coded (List ℕ)
bytes = coded_list coded_ℕ

abbrev pub mark_code : Mark → Gv
mark_code Open = gnum 0
mark_code Close = gnum 1
mark_code Comma = gnum 2
mark_code Semicolon = gnum 3
mark_code Equals = gnum 4
mark_code Dollar = gnum 5
mark_code Asterisk = gnum 6

pub mark_inj : (a b : Mark) → mark_code a ≡ mark_code b → a ≡ b
mark_inj Open Open e = refl
mark_inj Close Close e = refl
mark_inj Comma Comma e = refl
mark_inj Semicolon Semicolon e = refl
mark_inj Equals Equals e = refl
mark_inj Dollar Dollar e = refl
mark_inj Asterisk Asterisk e = refl
mark_inj _ _ e = absurd (cc)

-- a code with a number before it
abbrev pub tagged : ℕ → Gv → Gv
tagged n g = gcons (gnum n) g

abbrev pub word_code : Word → Gv
word_code begins = tagged 0 gnil
word_code ends = tagged 1 gnil
word_code (keyword s) = tagged 2 (bytes.code s)
word_code (user_defined s) = tagged 3 (bytes.code s)
word_code scope = tagged 4 gnil
word_code (name n s) = tagged 5 (gcons (gnum n) (bytes.code s))
word_code (number s) = tagged 6 (bytes.code s)
word_code (element s) = tagged 7 (bytes.code s)
word_code (string s) = tagged 8 (bytes.code s)
word_code (binary s) = tagged 9 (bytes.code s)
word_code (mark m) = tagged 10 (mark_code m)

pub word_inj : (a b : Word) → word_code a ≡ word_code b → a ≡ b
word_inj begins begins e = refl
word_inj ends ends e = refl
word_inj (keyword s) (keyword t) e = ap keyword (bytes.inj s t (cc))
word_inj (user_defined s) (user_defined t) e = ap user_defined (bytes.inj s t (cc))
word_inj scope scope e = refl
word_inj (name n s) (name m t) e = let first : n ≡ m = cc in let second : s ≡ t = bytes.inj s t (cc) in cc
word_inj (number s) (number t) e = ap number (bytes.inj s t (cc))
word_inj (element s) (element t) e = ap element (bytes.inj s t (cc))
word_inj (string s) (string t) e = ap string (bytes.inj s t (cc))
word_inj (binary s) (binary t) e = ap binary (bytes.inj s t (cc))
word_inj (mark m) (mark n) e = ap mark (mark_inj m n (cc))
word_inj _ _ e = absurd (cc)

abbrev mutual
  pub tree_code : Tree → Gv
  tree_code (leaf w) = tagged 0 (word_code w)
  tree_code (typed s x) = tagged 1 (gcons (bytes.code s) (tree_code x))
  tree_code (group xs) = tagged 2 (trees_code xs)

  pub trees_code : Trees → Gv
  trees_code none = gnil
  trees_code (one x xs) = gcons (tree_code x) (trees_code xs)

mutual
  pub tree_inj : (x y : Tree) → tree_code x ≡ tree_code y → x ≡ y
  tree_inj (leaf v) (leaf w) e = ap leaf (word_inj v w (cc))
  tree_inj (typed s x) (typed t y) e = let first : s ≡ t = bytes.inj s t (cc) in let second : x ≡ y =
      tree_inj x y (cc) in cc
  tree_inj (group xs) (group ys) e = ap group (trees_inj xs ys (cc))
  tree_inj _ _ e = absurd (cc)

  pub trees_inj : (xs ys : Trees) → trees_code xs ≡ trees_code ys → xs ≡ ys
  trees_inj none none e = refl
  trees_inj (one x xs) (one y ys) e = let first : x ≡ y = tree_inj x y (cc) in let second : xs ≡ ys =
      trees_inj xs ys (cc) in cc
  trees_inj _ _ e = absurd (cc)

abbrev pub coded_tree : Coded Tree
coded_tree = record { code = tree_code; inj = tree_inj }

abbrev pub coded_trees : Coded (List Tree)
coded_trees = coded_list coded_tree
