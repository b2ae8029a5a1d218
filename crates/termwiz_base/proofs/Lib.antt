mod MouseRows
