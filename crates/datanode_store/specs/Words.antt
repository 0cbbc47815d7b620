-- The words that stand for a store's errors.
use Rattle.std.specs.Prelude.{ℕ, List, ◌++◌, codes, decimal}
use Rattle.datanode_store.specs.declared.error.StoreError.{StoreError}
use Rattle.datanode_store.specs.declared.error.StoreError.TheVariants.{Foreign, Damaged, BadRecord, Device, NoMemory}

abbrev pub store_words : StoreError → List ℕ
store_words Foreign = codes "not a store"
store_words (Damaged at) = codes "damaged at byte " ++ decimal at
store_words (BadRecord at) = codes "bad record in entry " ++ decimal at
store_words Device = codes "the device failed"
store_words NoMemory = codes "out of memory"
