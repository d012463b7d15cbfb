-- The head of a page, up to its first state.
use Rattle.std.specs.Prelude.{ℕ, List, ◌++◌, codes}
use Rattle.page.specs.declared.sheet.TheConstants.{SHEET}

abbrev pub page_begun : List ℕ
page_begun = codes "<!DOCTYPE html>\n<html lang=\"en\">\n<head>\n<meta charset=\"utf-8\">\n"

-- a page loads nothing, and has its style in it
abbrev pub page_policy : List ℕ
page_policy =
    codes "<meta http-equiv=\"Content-Security-Policy\" content=\"default-src 'none'; style-src 'unsafe-inline'\">\n"

abbrev pub page_width : List ℕ
page_width = codes "<meta name=\"viewport\" content=\"width=device-width, initial-scale=1\">\n"

abbrev pub page_title : List ℕ
page_title = codes "<title>A tree, state by state</title>\n<style>\n"

abbrev pub page_top : List ℕ
page_top = page_begun ++ page_policy ++ page_width ++ page_title

abbrev pub heading_one : List ℕ
heading_one = codes "<header><h1>A tree, state by state</h1>\n"

-- what the marks of a page mean
abbrev pub marks_legend : List ℕ
marks_legend =
    codes "<p class=\"legend\"><em class=\"a\">added</em> <em class=\"u\">updated</em> "
    ++ codes "<em class=\"r\">removed</em> <em class=\"f\">focus</em> "
    ++ codes "<em class=\"h\">hidden or clipped</em></p>\n"

-- links to the first state and to the list of all
abbrev pub page_links : List ℕ
page_links = codes "<p><a href=\"#first\">First state</a> <a href=\"#states\">All states</a></p></header>\n"

abbrev pub page_legend : List ℕ
page_legend = heading_one ++ marks_legend ++ page_links

abbrev pub page_head : List ℕ
page_head = page_top ++ SHEET.now ++ codes "</style>\n</head>\n<body>\n" ++ page_legend ++ codes "<main id=\"first\">\n"
