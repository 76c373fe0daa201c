-- `write` writes two words.
use mathlib.Core.Path.{refl}
use Rattle.run_store.specs.StoreCode.{put_value}
use Rattle.run_cursor.proofs.cursor.write.Goals as goal

pub returns : goal.returns
unfolding put_value
returns c = refl
