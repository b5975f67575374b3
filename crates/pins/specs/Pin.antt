-- The hundred pins in their order: number, line, and whether the line's name is starred, which means low when true (003, Appendix B).
use Rattle.std.specs.Prelude.{ℕ, Bool, true, false, cond, not, ◌&&◌, List, [], ◌∷◌}
use Rattle.words.specs.Among.{beside}
use Rattle.phases.specs.Signal.{HOLD, pHLDA, ADSB, SDSB, DODSB, CDSB, SIXTN}
use Rattle.phases.specs.Status.{sMEMR, sM1, sINP, sOUT, sWO}
use Rattle.phases.specs.Control.{pSYNC, pSTVAL, pDBIN, pWR}
use Rattle.pins.specs.BusLine.{BusLine, address, data_out, data_in, priority, pulled_up, status, word_request, control, memory_write, unmodelled}
use Rattle.pins.specs.BusLine.{is_driven, is_true}
use Rattle.pins.specs.declared.moments.Moment.{Moment}

pub record Pin : Type 0 where
  pub line : BusLine
  pub is_starred : Bool

abbrev pub plain : BusLine → Pin
plain line = record { line = line; is_starred = false }

abbrev pub starred : BusLine → Pin
starred line = record { line = line; is_starred = true }

-- four pins to a row, as one digit of a picture shows them
unfoldable pub pin_table : List (ℕ × Pin)
pin_table =
    (1, plain (unmodelled "+8 V")) ∷ (2, plain (unmodelled "+16 V")) ∷ (3, plain (unmodelled "XRDY")) ∷ (4, starred (unmodelled "VI0"))
    ∷ (5, starred (unmodelled "VI1")) ∷ (6, starred (unmodelled "VI2")) ∷ (7, starred (unmodelled "VI3")) ∷ (8, starred (unmodelled "VI4"))
    ∷ (9, starred (unmodelled "VI5")) ∷ (10, starred (unmodelled "VI6")) ∷ (11, starred (unmodelled "VI7")) ∷ (12, starred (unmodelled "NMI"))
    ∷ (13, starred (unmodelled "PWRFAIL")) ∷ (14, starred (priority 3)) ∷ (15, plain (address 18)) ∷ (16, plain (address 16))
    ∷ (17, plain (address 17)) ∷ (18, starred (pulled_up SDSB)) ∷ (19, starred (pulled_up CDSB)) ∷ (20, plain (unmodelled "ground"))
    ∷ (21, plain (unmodelled "NDEF")) ∷ (22, starred (pulled_up ADSB)) ∷ (23, starred (pulled_up DODSB)) ∷ (24, plain (unmodelled "PHI"))
    ∷ (25, starred (control pSTVAL)) ∷ (26, plain (control pHLDA)) ∷ (27, plain (unmodelled "RFU")) ∷ (28, plain (unmodelled "RFU"))
    ∷ (29, plain (address 5)) ∷ (30, plain (address 4)) ∷ (31, plain (address 3)) ∷ (32, plain (address 15))
    ∷ (33, plain (address 12)) ∷ (34, plain (address 9)) ∷ (35, plain (data_out 1)) ∷ (36, plain (data_out 0))
    ∷ (37, plain (address 10)) ∷ (38, plain (data_out 4)) ∷ (39, plain (data_out 5)) ∷ (40, plain (data_out 6))
    ∷ (41, plain (data_in 2)) ∷ (42, plain (data_in 3)) ∷ (43, plain (data_in 7)) ∷ (44, plain (status sM1))
    ∷ (45, plain (status sOUT)) ∷ (46, plain (status sINP)) ∷ (47, plain (status sMEMR)) ∷ (48, plain (unmodelled "sHLTA"))
    ∷ (49, plain (unmodelled "CLOCK")) ∷ (50, plain (unmodelled "ground")) ∷ (51, plain (unmodelled "+8 V")) ∷ (52, plain (unmodelled "-16 V"))
    ∷ (53, plain (unmodelled "ground")) ∷ (54, starred (unmodelled "SLAVE CLR")) ∷ (55, starred (priority 0)) ∷ (56, starred (priority 1))
    ∷ (57, starred (priority 2)) ∷ (58, starred word_request) ∷ (59, plain (address 19)) ∷ (60, starred (pulled_up SIXTN))
    ∷ (61, plain (address 20)) ∷ (62, plain (address 21)) ∷ (63, plain (address 22)) ∷ (64, plain (address 23))
    ∷ (65, plain (unmodelled "NDEF")) ∷ (66, plain (unmodelled "NDEF")) ∷ (67, starred (unmodelled "PHANTOM")) ∷ (68, plain memory_write)
    ∷ (69, plain (unmodelled "RFU")) ∷ (70, plain (unmodelled "ground")) ∷ (71, plain (unmodelled "RFU")) ∷ (72, plain (unmodelled "RDY"))
    ∷ (73, starred (unmodelled "INT")) ∷ (74, starred (pulled_up HOLD)) ∷ (75, starred (unmodelled "RESET")) ∷ (76, plain (control pSYNC))
    ∷ (77, starred (control pWR)) ∷ (78, plain (control pDBIN)) ∷ (79, plain (address 0)) ∷ (80, plain (address 1))
    ∷ (81, plain (address 2)) ∷ (82, plain (address 6)) ∷ (83, plain (address 7)) ∷ (84, plain (address 8))
    ∷ (85, plain (address 13)) ∷ (86, plain (address 14)) ∷ (87, plain (address 11)) ∷ (88, plain (data_out 2))
    ∷ (89, plain (data_out 3)) ∷ (90, plain (data_out 7)) ∷ (91, plain (data_in 4)) ∷ (92, plain (data_in 5))
    ∷ (93, plain (data_in 6)) ∷ (94, plain (data_in 1)) ∷ (95, plain (data_in 0)) ∷ (96, plain (unmodelled "sINTA"))
    ∷ (97, starred (status sWO)) ∷ (98, starred (unmodelled "ERROR")) ∷ (99, starred (unmodelled "POC")) ∷ (100, plain (unmodelled "ground"))
    ∷ []

-- the pin of that number
abbrev pub pin_at : ℕ → Pin
pin_at n = beside n pin_table (plain (unmodelled ""))

-- a line that is driven shows its truth, turned round where its name is starred; one that isn't is low
abbrev pub is_high : Pin → Moment → Bool
is_high pin m = is_driven pin.line m && cond pin.is_starred (not (is_true pin.line m)) (is_true pin.line m)
