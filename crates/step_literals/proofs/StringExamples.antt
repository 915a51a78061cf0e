-- How strings are read, by examples.
use Rattle.std.proofs.Common.{◌≡◌, [], ◌∷◌, refl, None, codes, lit<}
use Rattle.step_literals.specs.Strings.{apostrophe, backslash, shift, page, code, groups, run, byte, clean, content_of, piece_at, AreRead, IsBrokenAt}

-- the content of a string, between its apostrophes
content : content_of (codes "'a b'") ≡ codes "a b"
content = refl

-- `''` is an apostrophe
two_apostrophes : AreRead (clean (codes "a''b")) (byte 97 ∷ apostrophe ∷ byte 98 ∷ []) []
two_apostrophes = (refl, (refl, (refl, refl)))

-- `\\` is a backslash
two_backslashes : AreRead (clean (codes "a\\\\b")) (byte 97 ∷ backslash ∷ byte 98 ∷ []) []
two_backslashes = (refl, (refl, (refl, refl)))

-- `\\` comes first: no directive begins at its second backslash
backslash_first : AreRead (clean (codes "\\\\X\\E9")) (backslash ∷ byte 88 ∷ byte 92 ∷ byte 69 ∷ byte 57 ∷ []) []
backslash_first = (refl, (refl, (refl, (refl, (refl, refl)))))

-- `\S\i` is a byte beyond ASCII
shifted : AreRead (clean (codes "\\S\\i")) (shift 105 ∷ []) []
shifted = (refl, refl)

-- `\S\\`: whatever the byte begins
shifted_backslash : AreRead (clean (codes "\\S\\\\")) (shift 92 ∷ []) []
shifted_backslash = (refl, refl)

-- `\S\''`: an apostrophe is doubled
shifted_apostrophe : AreRead (clean (codes "\\S\\''")) (shift 39 ∷ []) []
shifted_apostrophe = (refl, refl)

-- `\S\` at the end is broken
shift_broken : piece_at (codes "\\S\\") ≡ None
shift_broken = refl

-- `\PB\` picks a page
second_page : AreRead (clean (codes "\\PB\\\\S\\i")) (page 66 ∷ shift 105 ∷ []) []
second_page = (refl, (refl, refl))

-- `\PJ\` picks none
no_page : AreRead (clean (codes "\\PJ\\")) (byte 92 ∷ byte 80 ∷ byte 74 ∷ byte 92 ∷ []) []
no_page = (refl, (refl, (refl, (refl, refl))))

-- `\X\E9` is one byte, in either case
one_byte : AreRead (clean (codes "\\X\\E9\\X\\e9")) (code (codes "E9") ∷ code (codes "e9") ∷ []) []
one_byte = (refl, (refl, refl))

-- `\X\E` is broken
byte_broken : piece_at (codes "\\X\\E") ≡ None
byte_broken = refl

-- `\X2\00E900EA\X0\`: two groups of four digits
two_groups : AreRead (clean (codes "\\X2\\00E900EA\\X0\\")) (groups 4 (codes "00E900EA") ∷ []) []
two_groups = (refl, refl)

-- `\X2\\X0\`: no groups
no_groups : AreRead (clean (codes "\\X2\\\\X0\\b")) (groups 4 [] ∷ byte 98 ∷ []) []
no_groups = (refl, (refl, refl))

-- `\X2\00E` and `\X2\00E9` are broken, and so are three digits before `\X0\`
group_broken : piece_at (codes "\\X2\\00E") ≡ None
group_broken = refl

end_broken : piece_at (codes "\\X2\\00E9") ≡ None
end_broken = refl

width_broken : piece_at (codes "\\X2\\00E\\X0\\") ≡ None
width_broken = refl

-- `\X4\0001F600\X0\`: a group of eight digits
wide_group : AreRead (clean (codes "\\X4\\0001F600\\X0\\")) (groups 8 (codes "0001F600") ∷ []) []
wide_group = (refl, refl)

-- `\x\` and `\s\` are no directives
small_letters : AreRead (clean (codes "\\x\\\\s\\")) (byte 92 ∷ byte 120 ∷ backslash ∷ byte 115 ∷ byte 92 ∷ []) []
small_letters = (refl, (refl, (refl, (refl, (refl, refl)))))

-- `C:\temp`: a backslash that begins no directive is itself
path : AreRead (clean (codes "C:\\temp")) (byte 67 ∷ byte 58 ∷ byte 92 ∷ byte 116 ∷ byte 101 ∷ byte 109 ∷ byte 112 ∷ [])
    []
path = (refl, (refl, (refl, (refl, (refl, (refl, (refl, refl)))))))

-- bytes beyond ASCII are taken in one run
high_run : AreRead (clean (97 ∷ 195 ∷ 169 ∷ 226 ∷ 130 ∷ 172 ∷ 98 ∷ []))
    (byte 97 ∷ run (195 ∷ 169 ∷ 226 ∷ 130 ∷ 172 ∷ []) ∷ byte 98 ∷ []) []
high_run = (refl, (refl, (refl, refl)))

-- a line break anywhere changes nothing: `\X` and `2\00` and `E9\X0\` on three lines
broken_lines : AreRead (clean (92 ∷ 88 ∷ 10 ∷ 50 ∷ 92 ∷ 48 ∷ 48 ∷ 13 ∷ 10 ∷ codes "E9\\X0\\")) (groups 4 (codes "00E9")
    ∷ []) []
broken_lines = (refl, refl)

-- the first directive that is not completed is the second: `a\X\E9\X\E`
first_broken : IsBrokenAt (codes "a\\X\\E9\\X\\E") 6
first_broken = record {
  within = lit< tt;
  backslash_there = refl;
  pieces = byte 97 ∷ code (codes "E9") ∷ [];
  read = (refl, (refl, refl));
  broken = refl;
}
