-- What is printed of a sample. Assumes nothing.
use Rattle.std.specs.Prelude.{ℕ, List, ◌++◌, codes}
use Rattle.books.specs.Texts.{check_text}
use Rattle.samples.specs.declared.Sample.{Sample}

abbrev pub sample_text : Sample → List ℕ
sample_text s = codes "check of " ++ (s.name.now ++ (codes ": " ++ check_text s.found))
