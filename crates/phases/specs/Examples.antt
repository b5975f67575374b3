-- The tables of 01 and 000, entry by entry.
use Rattle.std.specs.Prelude.{ℕ, ◌+◌, ◌≡◌, true, false, List, [], ◌∷◌, replicate}
use Rattle.phases.specs.Phase as Phase
use Rattle.phases.specs.Kind as Kind
use Rattle.phases.specs.Signal.{HOLD, pHLDA, ADSB, SDSB, DODSB, CDSB, SIXTN, sXTRQ, signals_in}
use Rattle.phases.specs.Driver.{address, status_lines, data_out, control, no_driver, permanent, card, both, driver_of, drivers_in}
use Rattle.phases.specs.Status.{sMEMR, sM1, sINP, sOUT, sWO, status_of}
use Rattle.phases.specs.Control.{pSYNC, pSTVAL, pDBIN, pWR, control_in, is_mwrt}

-- ---- The numbers that 01 gives its phases, its kinds, its codes, its signals ("The program and one whole run") and its status lines

pub record Weights : Type 0 where
  pub phases : Phase.free ∷ Phase.arbitration ∷ Phase.granted ∷ Phase.transfer_one ∷ Phase.owned ∷ Phase.transfer_two ∷ [] ≡ 0 ∷ 1 ∷ 2 ∷ 3 ∷ 4 ∷ 5 ∷ []
  pub asking : Kind.request ∷ Kind.look ∷ Kind.acknowledge ∷ Kind.begin_transfer_one ∷ Kind.take_bus ∷ [] ≡ 0x01 ∷ 0x02 ∷ 0x03 ∷ 0x04 ∷ 0x05 ∷ []
  pub cycles : Kind.byte_read ∷ Kind.opcode_fetch ∷ Kind.byte_write ∷ Kind.word_read ∷ Kind.word_write ∷ Kind.input ∷ Kind.output ∷ []
      ≡ 0x06 ∷ 0x07 ∷ 0x08 ∷ 0x09 ∷ 0x0A ∷ 0x0B ∷ 0x0C ∷ []
  pub ending : Kind.begin_transfer_two ∷ Kind.give_back ∷ Kind.reset ∷ [] ≡ 0x0D ∷ 0x0E ∷ 0x0F ∷ []
  pub last : Phase.last ∷ Kind.last ∷ [] ≡ 5 ∷ 0x0F ∷ []
  pub groups : address ∷ status_lines ∷ data_out ∷ control ∷ [] ≡ 0 ∷ 1 ∷ 2 ∷ 3 ∷ []
  pub codes : no_driver ∷ permanent ∷ card ∷ both ∷ [] ≡ 0 ∷ 1 ∷ 2 ∷ 3 ∷ []
  pub signals : HOLD ∷ pHLDA ∷ ADSB ∷ SDSB ∷ DODSB ∷ CDSB ∷ SIXTN ∷ sXTRQ ∷ []
      ≡ 0x01 ∷ 0x02 ∷ 0x04 ∷ 0x08 ∷ 0x10 ∷ 0x20 ∷ 0x40 ∷ 0x80 ∷ []
  pub status : sMEMR ∷ sM1 ∷ sINP ∷ sOUT ∷ sWO ∷ [] ≡ 0x01 ∷ 0x02 ∷ 0x04 ∷ 0x08 ∷ 0x10 ∷ []

-- ---- Which cycles are of the memory, of words, and of ports

-- what the kinds from 05 to 0D have, in their order
abbrev pub five_to_d : {A : Type 0} → (ℕ → A) → List A
five_to_d f = f 0x05 ∷ f 0x06 ∷ f 0x07 ∷ f 0x08 ∷ f 0x09 ∷ f 0x0A ∷ f 0x0B ∷ f 0x0C ∷ f 0x0D ∷ []

pub record Cycles : Type 0 where
  pub memory : five_to_d Kind.is_of_memory ≡ false ∷ true ∷ true ∷ true ∷ true ∷ true ∷ false ∷ false ∷ false ∷ []
  pub words : five_to_d Kind.is_word ≡ false ∷ false ∷ false ∷ false ∷ true ∷ true ∷ false ∷ false ∷ false ∷ []
  pub ports : five_to_d Kind.is_of_ports ≡ false ∷ false ∷ false ∷ false ∷ false ∷ false ∷ true ∷ true ∷ false ∷ []

-- ---- The tables as bytes, and beyond their ends

-- what the phases have, in their order, and the number behind them
abbrev pub each_phase : {A : Type 0} → (ℕ → A) → List A
each_phase f = f 0 ∷ f 1 ∷ f 2 ∷ f 3 ∷ f 4 ∷ f 5 ∷ f 6 ∷ []

pub record Tables : Type 0 where
  pub drivers : each_phase drivers_in
      ≡ (1 ∷ 1 ∷ 1 ∷ 1 ∷ []) ∷ (1 ∷ 1 ∷ 1 ∷ 1 ∷ []) ∷ (1 ∷ 1 ∷ 1 ∷ 1 ∷ []) ∷ (0 ∷ 0 ∷ 0 ∷ 3 ∷ []) ∷ (2 ∷ 2 ∷ 2 ∷ 2 ∷ []) ∷ (0 ∷ 0 ∷ 0 ∷ 3 ∷ []) ∷ [] ∷ []
  pub no_group : driver_of Phase.free 4 ≡ 0
  pub signals : each_phase signals_in ≡ 0x00 ∷ 0x01 ∷ 0x03 ∷ 0x1F ∷ 0x3F ∷ 0x1E ∷ 0x00 ∷ []
  pub status : five_to_d status_of ≡ 0x00 ∷ 0x01 ∷ 0x03 ∷ 0x10 ∷ 0x01 ∷ 0x10 ∷ 0x04 ∷ 0x18 ∷ 0x00 ∷ []

-- ---- Control outputs and MWRT (000, Table 7, 2.7.4, 2.7.5)

-- the outputs of the seven kinds of cycles, 06 to 0C, in a phase
abbrev pub controls_in : ℕ → List ℕ
controls_in phase =
    control_in phase 0x06 ∷ control_in phase 0x07 ∷ control_in phase 0x08 ∷ control_in phase 0x09 ∷ control_in phase 0x0A ∷ control_in phase 0x0B
    ∷ control_in phase 0x0C ∷ []

pub record ControlTable : Type 0 where
  pub weights : pSYNC ∷ pHLDA ∷ pSTVAL ∷ pDBIN ∷ pWR ∷ [] ≡ 0x01 ∷ 0x02 ∷ 0x04 ∷ 0x08 ∷ 0x10 ∷ []
  pub free : controls_in Phase.free ≡ pDBIN ∷ pDBIN ∷ pWR ∷ pDBIN ∷ pWR ∷ pDBIN ∷ pWR ∷ []
  pub arbitration : controls_in Phase.arbitration ≡ pDBIN ∷ pDBIN ∷ pWR ∷ pDBIN ∷ pWR ∷ pDBIN ∷ pWR ∷ []
  pub granted : controls_in Phase.granted ≡ replicate 7 pHLDA
  pub transfer_one : controls_in Phase.transfer_one ≡ replicate 7 pHLDA
  pub owned : control_in Phase.owned 0x06 ∷ control_in Phase.owned 0x08 ∷ [] ≡ (pDBIN + pHLDA) ∷ (pWR + pHLDA) ∷ []
  pub transfer_two : controls_in Phase.transfer_two ≡ replicate 7 pHLDA
  pub no_cycle : control_in Phase.free 0x05 ≡ 0
  pub memory_write : is_mwrt (control_in Phase.free 0x08) (status_of 0x08) ≡ true
  pub port_write : is_mwrt (control_in Phase.free 0x0C) (status_of 0x0C) ≡ false
  pub memory_read : is_mwrt (control_in Phase.free 0x06) (status_of 0x06) ≡ false
