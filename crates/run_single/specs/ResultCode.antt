-- What an entry came to, with the words that it leaves. These definitions follow the code.
use Rattle.std.specs.Prelude.{ℕ, List}
use Rattle.run_single.specs.declared.result.EntryResult.{EntryResult}

pub record AfterEntry : Type 0 where
  pub result : EntryResult
  pub trace : List ℕ
  pub work : List ℕ

abbrev pub after_entry : EntryResult → List ℕ → List ℕ → AfterEntry
after_entry m t w = record { result = m; trace = t; work = w }
