-- The cycles of specs/Examples, computed by the definitions.
use mathlib.Core.Path.{refl}
use Rattle.memory.specs.Cycles.{byte_read, byte_write, word_read, word_write, after_word_write}
use Rattle.memory.specs.Examples.{ReadAtTwo, WrittenAtTwo, NothingThere}

pub read_at_two : ReadAtTwo
unfolding byte_read word_read
read_at_two = record { eight_bits = refl; sixteen_bits = refl; even_byte = refl; odd_byte = refl }

pub written_at_two : WrittenAtTwo
unfolding byte_write word_write after_word_write
written_at_two = record {
  eight_bits = refl;
  sixteen_bits = refl;
  eight_bits_left = refl;
  sixteen_bits_left = refl;
  odd_byte = refl;
  odd_byte_left = refl;
}

pub nothing_there : NothingThere
unfolding byte_read byte_write word_read word_write after_word_write
nothing_there = record {
  none = refl;
  odd_read = refl;
  odd_write = refl;
  odd_left = refl;
  last_read = refl;
  last_write = refl;
  last_left = refl;
  end_read = refl;
  end_write = refl;
  end_left = refl;
}
