-- The laws of src/laws.rt as lemmas, each under its name, and each clause of a law with several as LAW_CLAUSE: cited by proofs,
-- here and in the crates above.
use Rattle.register_core.proofs.Items.{same_item}
use Rattle.register_core.specs.Word.{DigitsTellItems}
pub use Rattle.register_core.proofs.UnaryMoments.{numbered-stay_within as numbered_stay_within}
pub use Rattle.register_core.proofs.MadeWrites.{cell_writes-are as writes_are_made_cells, count_writes-are as writes_are_made_counts, bit_writes-are as writes_are_made_bits, words-write as phrases_write_words, counts-write as phrases_write_counts, bits-write as phrases_write_bits, parts-write as phrases_write_parts}
pub use Rattle.register_core.proofs.RegularBit.{bit-is_regular as bit_is_regular}
pub use Rattle.register_core.proofs.SafeWord.{word-is_safe as word_is_safe, digits-are_safe as digits_are_safe}
pub use Rattle.register_core.proofs.UnaryLaw.{unary-is_regular as unary_is_regular, unary-has_one as unary_has_one}
pub use Rattle.register_core.proofs.MadeReads.{scans-are_made as reads_are_made_scans, zeros-are_made as reads_are_made_zeros, words-are_made as reads_are_made_words}

pub digits_tell_items : DigitsTellItems
digits_tell_items = same_item
