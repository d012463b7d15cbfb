use Rattle.std.proofs.Common.{[], ◌∷◌, ◌++◌, codes}
use Rattle.std.proofs.lemmas.Result.{on_err_weaker, on_ok_weaker}
use Rattle.std.proofs.KnownBytes.{Appends-trans}
use Rattle.html.proofs.Beginnings.{at_err, of_joined, past}
use Rattle.page.specs.Heads.{page_legend, page_top}
use Rattle.page.specs.declared.sheet.TheConstants.{SHEET}
use Rattle.page.proofs.head.write_head.Goals as goal

pub returns-in_err-write_top-clause-cut : goal.returns-in_err-write_top-clause-cut
returns-in_err-write_top-clause-cut g c =
    at_err _ (of_joined _ _ (page_top) (SHEET.now ∷ (codes "</style>\n</head>\n<body>\n") ∷ page_legend ∷ (codes "<main id=\"first\">\n") ∷ []) c.in_err-write_top.ensures.cut)

pub returns-in_err-write_plain-clause-cut : goal.returns-in_err-write_plain-clause-cut
returns-in_err-write_plain-clause-cut g c =
    let before = c.in_ok-write_top.ensures.written in
    at_err _ (of_joined _ _ (page_top ++ SHEET.now) ((codes "</style>\n</head>\n<body>\n") ∷ page_legend ∷ (codes "<main id=\"first\">\n") ∷ []) (past _ _ _ (page_top) (SHEET.now) before c.in_err-write_plain.ensures.cut))

pub returns-in_err-write_bytes-clause-cut : goal.returns-in_err-write_bytes-clause-cut
returns-in_err-write_bytes-clause-cut g c =
    let before = (Appends-trans _ _ _ (page_top) (SHEET.now) c.in_ok-write_top.ensures.written c.in_ok-write_plain.ensures.written) in
    at_err _ (of_joined _ _ (page_top ++ SHEET.now ++ codes "</style>\n</head>\n<body>\n") (page_legend ∷ (codes "<main id=\"first\">\n") ∷ []) (past _ _ _ (page_top ++ SHEET.now) (codes "</style>\n</head>\n<body>\n") before c.in_err-write_bytes.ensures.cut))

pub returns-in_err-write_legend-clause-cut : goal.returns-in_err-write_legend-clause-cut
returns-in_err-write_legend-clause-cut g c =
    let before = (Appends-trans _ _ _ (page_top ++ SHEET.now) (codes "</style>\n</head>\n<body>\n") (Appends-trans _ _ _ (page_top) (SHEET.now) c.in_ok-write_top.ensures.written c.in_ok-write_plain.ensures.written) c.in_ok-write_bytes.ensures.written) in
    at_err _ (of_joined _ _ (page_top ++ SHEET.now ++ codes "</style>\n</head>\n<body>\n" ++ page_legend) ((codes "<main id=\"first\">\n") ∷ []) (past _ _ _ (page_top ++ SHEET.now ++ codes "</style>\n</head>\n<body>\n") (page_legend) before c.in_err-write_legend.ensures.cut))

pub returns-clause-cut : goal.returns-clause-cut
returns-clause-cut g c =
    let before = (Appends-trans _ _ _ (page_top ++ SHEET.now ++ codes "</style>\n</head>\n<body>\n") (page_legend) (Appends-trans _ _ _ (page_top ++ SHEET.now) (codes "</style>\n</head>\n<body>\n") (Appends-trans _ _ _ (page_top) (SHEET.now) c.in_ok-write_top.ensures.written c.in_ok-write_plain.ensures.written) c.in_ok-write_bytes.ensures.written) c.in_ok-write_legend.ensures.written) in
    on_err_weaker _ (past _ _ _ (page_top ++ SHEET.now ++ codes "</style>\n</head>\n<body>\n" ++ page_legend) (codes "<main id=\"first\">\n") before) c.write_bytes-2.ensures.cut

pub returns-clause-written : goal.returns-clause-written
returns-clause-written g c =
    let before = (Appends-trans _ _ _ (page_top ++ SHEET.now ++ codes "</style>\n</head>\n<body>\n") (page_legend) (Appends-trans _ _ _ (page_top ++ SHEET.now) (codes "</style>\n</head>\n<body>\n") (Appends-trans _ _ _ (page_top) (SHEET.now) c.in_ok-write_top.ensures.written c.in_ok-write_plain.ensures.written) c.in_ok-write_bytes.ensures.written) c.in_ok-write_legend.ensures.written) in
    on_ok_weaker c.write_bytes-2.result (Appends-trans _ _ _ (page_top ++ SHEET.now ++ codes "</style>\n</head>\n<body>\n" ++ page_legend) (codes "<main id=\"first\">\n") before) c.write_bytes-2.ensures.written
